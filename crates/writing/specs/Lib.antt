-- What the programs write (document 01, "The sheet" and "Whole case"), and what the functions that write it promise.
pub mod Numerals
pub mod Texts
pub mod Writing
