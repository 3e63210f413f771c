-- What a draft is, and what the functions that read a step or a `]` into one promise.
pub mod Drafts
pub mod Steps
