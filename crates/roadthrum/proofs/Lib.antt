-- Why the program's calls are allowed, and why its pages end.
pub mod Accepted
pub mod Stopped
