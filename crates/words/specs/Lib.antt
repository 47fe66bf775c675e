-- How a program holds an entry.
pub mod Words
