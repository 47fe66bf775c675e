-- Laws of testing a timing.
pub mod TestLaws
pub mod SheetLaws
