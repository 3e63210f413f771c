-- No code is involved here: the laws of the definitions in `specs/`, tests that are proved to decide what these say, and the marked cases
-- of document 01, which rest on the tests.
pub mod Laws
pub mod Decide
pub mod Cases
