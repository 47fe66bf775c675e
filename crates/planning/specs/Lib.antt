-- What planning returns and leaves in the lent space, and the demands on it.
pub mod Planning
pub mod Inner
pub mod Demands
