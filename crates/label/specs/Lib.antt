-- What the functions of this crate promise that document 01 has no word for.
pub mod Started
