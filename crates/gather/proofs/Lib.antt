-- Laws of gathering, in the order in which one file builds on another.
pub mod GatherLaws
pub mod SpreadLaws
