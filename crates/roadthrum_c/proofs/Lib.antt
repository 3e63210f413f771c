-- Why the numbers are right and fixed.
pub mod Fixed
pub mod Passing
