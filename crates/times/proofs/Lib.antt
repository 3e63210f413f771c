-- What the looks at the entries rest on.
pub mod Looking
