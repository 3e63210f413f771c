-- What the table of the records that are still open promises.
pub mod Entries
