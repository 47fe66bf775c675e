-- Laws of the kept table.
pub mod KeptLaws
