-- Laws of listing, in the order in which one file builds on another.
pub mod ListingLaws
pub mod TurnLaws
