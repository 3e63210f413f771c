-- What reading a question promises.
pub mod Questions
pub mod Promise
