-- Document 01 in definitions, in its order: read these files from the first to the last.
pub mod Limits
pub mod Bytes
pub mod Labels
pub mod Names
pub mod Day
pub mod Notation
pub mod Picks
pub mod Pages
pub mod Waits
pub mod Numbers
pub mod Refusals
pub mod Promises
pub mod Answers
pub mod Fit
pub mod Ends
pub mod Printing
