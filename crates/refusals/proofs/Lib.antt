-- Laws of refusals.
pub mod NumberLaws
pub mod ResultLaws
