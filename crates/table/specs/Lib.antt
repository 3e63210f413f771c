-- The refusals that are about the table of contents, and what their small tests are about.
pub mod ContentsTable
pub mod Tests
