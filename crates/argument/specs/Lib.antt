-- How the times or the whole number that a program is given as an argument are read, and what the functions that read them promise.
pub mod Times
pub mod Whole
pub mod Inner
