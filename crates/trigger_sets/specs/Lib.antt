-- Sets of triggers as bytes.
pub mod Sets
