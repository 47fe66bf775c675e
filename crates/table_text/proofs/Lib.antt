-- Rows as lines of a sheet.
pub mod EntryLaws
pub mod RowLaws
