-- Laws of putting texts, of numerals and signed words, of the texts of lines, and of the words that hold lines.
pub mod PutLaws
pub mod WriterLaws
pub mod NumeralLaws
pub mod SignedLaws
pub mod TextLaws
pub mod LineLaws
pub mod WordLaws
