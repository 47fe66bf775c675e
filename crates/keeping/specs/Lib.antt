-- What kept table and walk return.
pub mod Keeping
