-- What a tournament holds.
pub mod Tournament
