-- The generator, and what is true of its sheets.
pub mod DrawLaws
pub mod ChainLaws
pub mod ItemLaws
pub mod SheetParts
pub mod MadeLaws
pub mod HireLaws
pub mod Loads
pub mod HireCases
