-- What a reader of one list's body promises.
pub mod Reading
