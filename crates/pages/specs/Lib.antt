-- What a page promises of its rows, and what the rows of each call are.
pub mod RowParts
pub mod RowKinds
