-- That the promise of a search fixes its result, and what a search rests on.
pub mod Fixed
pub mod Halving
pub mod Searching
