-- What the sets of rays hold.
pub mod Rays
