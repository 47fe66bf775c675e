-- Laws of the text that is written.
pub mod OutputLaws
