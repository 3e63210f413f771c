-- What the table of contents leaves to those that stand on it.
pub mod Parts
pub mod OneProof
