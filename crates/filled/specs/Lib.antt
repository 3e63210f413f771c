-- When a name stands in a field.
pub mod Fields
