-- Laws of a kept table's outcome.
pub mod Laws
