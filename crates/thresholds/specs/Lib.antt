-- Document 01's steps 4 and 5 over entries.
pub mod Thresholds
