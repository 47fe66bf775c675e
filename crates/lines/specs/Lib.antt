-- What the list in the lent space is.
pub mod Listing
