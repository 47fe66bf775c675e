-- Laws of lines as words, in the order in which one file builds on another.
pub mod OrderLaws
pub mod DrawLaws
pub mod DrawableLaws
