-- What the looks at the entries find.
pub mod Entries
