-- What the engine is lent, and what its parts promise.
pub mod Plan
pub mod Cursors
pub mod Looking
