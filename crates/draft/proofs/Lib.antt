-- What is known of drafts and of a step or a `]` at a place of a text, with no mention of code.
pub mod Fixed
pub mod Bytes
pub mod Lengths
pub mod Closing
