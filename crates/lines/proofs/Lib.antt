-- Why the parts that are written one behind the other are the line, and that it is fixed.
pub mod DigitLaws
pub mod StepLaws
pub mod MemoryLaws
pub mod Fixed
