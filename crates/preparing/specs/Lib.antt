-- What is known of a sheet's words, of its cue's, and of what is made from them.
pub mod Levels
pub mod Prepared
