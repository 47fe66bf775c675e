-- What testing a timing returns.
pub mod Testing
