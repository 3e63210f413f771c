-- What the calls give on the marked cases.
pub mod Tied
