-- What reading a sheet answers.
pub mod Reading
pub mod Inner
