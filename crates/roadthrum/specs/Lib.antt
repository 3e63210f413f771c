-- What the functions of the program ask of each other.
pub mod PageRows
pub mod Stopping
