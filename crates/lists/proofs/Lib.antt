-- What the functions' proofs rest on, with no mention of code.
pub mod Bodies
pub mod Listing
pub mod Looking
