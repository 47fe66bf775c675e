-- What the buffer holds, and the lent space.
pub mod Buffer
pub mod Space
