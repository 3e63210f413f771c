-- What the response promises.
pub mod Response
