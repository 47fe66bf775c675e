-- The words that C is given.
pub mod Words
pub mod Inner
