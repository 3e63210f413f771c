-- What is wrong in one list by itself, and what refusal 5 leaves.
pub mod Ordering
