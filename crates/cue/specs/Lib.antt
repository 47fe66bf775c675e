-- A cue: what is said of its vectors, the method that finds the lines (document 01, steps 2 to 7), and how large results are.
pub mod Minimal
pub mod Cue
pub mod Vectors
pub mod Method
pub mod Written
pub mod Latest
pub mod Sizes
pub mod Results
pub mod Standing
pub mod Closures
pub mod Visited
