-- What the generator of sheets returns and leaves in the lent bytes, and what is true of its sheets.
pub mod Hiring
pub mod Inner
pub mod Loads
