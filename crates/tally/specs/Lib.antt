-- What the parts of the tally promise.
pub mod Sights
pub mod Adding
