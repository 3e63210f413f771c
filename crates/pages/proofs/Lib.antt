-- Why the rows are a page.
pub mod Paging
