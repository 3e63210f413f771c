-- What the tally rests on, with no mention of code.
pub mod Sighting
pub mod Deciding
pub mod Counting
pub mod Turning
