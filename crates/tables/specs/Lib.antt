-- What arrays of words say of tables and vectors of entries, and of lines.
pub mod Held
pub mod Lines
