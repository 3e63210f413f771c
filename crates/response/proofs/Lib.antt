-- From the engine's page to what the calls promise.
pub mod Ending
pub mod Responding
