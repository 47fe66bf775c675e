-- Laws of laying lines out, in the order in which one file builds on another.
pub mod WidthLaws
pub mod LayLaws
pub mod CapLaws
pub mod FinishLaws
pub mod SheetLaws
