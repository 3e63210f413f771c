-- What is known of reading a path, with no mention of code.
pub mod Sizes
pub mod Growths
pub mod Reaching
pub mod Fixed
pub mod PathLoop
