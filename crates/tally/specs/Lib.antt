-- What is counted of the walk, and what is remembered.
pub mod Counting
