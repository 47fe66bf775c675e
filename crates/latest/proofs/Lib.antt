-- Laws of the texts that are written, and the texts of document 01's whole case.
pub mod OutputLaws
pub mod WholeCase
