-- What the functions' proofs rest on, with no mention of code.
pub mod WalkLaws
pub mod Left
pub mod Naming
pub mod Filling
pub mod Passing
pub mod Fixed
