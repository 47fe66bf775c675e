-- What comparing two sheets answers.
pub mod Comparing
pub mod Inner
