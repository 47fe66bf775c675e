-- Laws of words as entries, and as signed numbers.
pub mod Laws
pub mod SignedLaws
