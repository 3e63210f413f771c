-- What a reader hands out, as its callers use it.
pub mod ReaderLaws
