-- What the functions' proofs rest on, with no mention of code.
pub mod CheckLaws
pub mod Rounds
