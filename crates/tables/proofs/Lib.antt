-- Laws of tables and lines as words, in the order in which one file builds on another.
pub mod Loops
pub mod SquareLaws
pub mod LargestLaws
pub mod LineLaws
