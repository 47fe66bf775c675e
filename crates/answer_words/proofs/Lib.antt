-- Words stored one after the other make the answers.
pub mod Storing
