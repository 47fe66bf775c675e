-- Laws of the walk, in the order in which one file builds on another. Stepping and Follows have what callers use.
pub mod PassLaws
pub mod NarrowLaws
pub mod PickLaws
pub mod Stack
pub mod Walking
pub mod Whole
pub mod RememberLaws
pub mod ResumeLaws
pub mod TraceLaws
pub mod Stepping
pub mod EachLaws
pub mod Follows
pub mod Examples
