-- Laws of a planning's outcome, and the texts of document 01's whole case.
pub mod Laws
pub mod WholeCase
