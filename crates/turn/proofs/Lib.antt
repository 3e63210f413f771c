-- What the functions' proofs rest on, with no mention of code.
pub mod Stack
pub mod Sweeping
pub mod Opening
pub mod Passing
pub mod Turning
pub mod Judging
pub mod Fixed
