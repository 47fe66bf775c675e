-- Laws of reading a sheet.
pub mod SectionsRead
pub mod SizedLaws
pub mod EmptyLaws
pub mod MissingLaws
pub mod WordsLaws
pub mod CheckLaws
pub mod Refusals
pub mod AnswerLaws
