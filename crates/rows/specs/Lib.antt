-- What reading lines of items promises, and their words.
pub mod Grid
pub mod Inner
