-- What is known of runs of name characters, with no mention of code.
pub mod RunLaws
