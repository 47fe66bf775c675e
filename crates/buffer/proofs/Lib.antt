-- Laws of the buffer, of lists and of the lent space, in the order in which one file builds on another.
pub mod BufferLaws
pub mod SpaceLaws
pub mod ListLaws
pub mod HeldLaws
