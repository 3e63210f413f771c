-- How far a name reaches in a text.
pub mod Runs
