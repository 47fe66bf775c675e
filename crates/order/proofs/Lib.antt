-- Laws of powers, of the star and of the order check over words.
pub mod OrderLaws
