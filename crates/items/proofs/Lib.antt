-- Laws of items.
pub mod ItemLaws
