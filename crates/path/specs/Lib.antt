-- A path's steps as they are stored, and what reading a path promises.
pub mod Stored
pub mod Reach
