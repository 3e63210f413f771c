-- From what the parts of the call promise to its promise.
pub mod Waiting
