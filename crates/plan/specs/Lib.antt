-- What a plan is.
pub mod Drawn
