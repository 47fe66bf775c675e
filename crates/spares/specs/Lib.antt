-- The triggers in use as a program holds them.
pub mod Using
