-- What one turn of the sweep promises.
pub mod Sweep
