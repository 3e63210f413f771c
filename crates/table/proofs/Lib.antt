-- What the functions' proofs rest on, with no mention of code.
pub mod RowLaws
pub mod TableLaws
