-- What the functions' proofs rest on, with no mention of code.
pub mod Placing
pub mod FindLaws
pub mod BodyLaws
