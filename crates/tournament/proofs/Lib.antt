-- What the functions' proofs rest on, with no mention of code.
pub mod Playing
pub mod Building
pub mod Leaves
