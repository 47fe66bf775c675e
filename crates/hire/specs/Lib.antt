-- What the program is asked for, and what it writes.
pub mod Call
pub mod Output
pub mod Inner
