-- What is known of names in fields, with no mention of code.
pub mod FieldLaws
