-- What the functions of this crate promise to each other.
pub mod Adding
pub mod Memory
