-- What is known of reading a question, with no mention of code.
pub mod Fixed
pub mod Texts
pub mod Outcomes
pub mod StoredSteps
