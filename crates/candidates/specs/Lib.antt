-- What the words of a sheet's tables say, and step 6 and the test for extreme over entries.
pub mod Rays
pub mod Drawable
