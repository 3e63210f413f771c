-- Why the cursors are the evidence.
pub mod Fixed
pub mod Moves
pub mod SettleTurns
