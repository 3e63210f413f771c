-- What the parts of the check promise to each other.
pub mod ListsTable
