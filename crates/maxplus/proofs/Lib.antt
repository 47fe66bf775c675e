-- Laws of max-plus algebra, in the order in which one file builds on another.
pub mod WholeLaws
pub mod LatestLaws
pub mod EntryLaws
pub mod FiniteLaws
pub mod EachLaws
pub mod SupLaws
pub mod TableLaws
pub mod SortedLaws
pub mod GatherLaws
pub mod LineLaws
pub mod PackingLaws
pub mod LayoutLaws
pub mod CombinationLaws
pub mod Pigeon
pub mod StarLaws
pub mod WaysLaws
