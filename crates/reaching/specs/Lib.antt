-- What reaching for the latest tightest timing returns and leaves in the lent space, and what is promised of it.
pub mod Reaching
pub mod Inner
pub mod Promise
