-- What the words of last moments are.
pub mod Moments
