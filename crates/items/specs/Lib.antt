-- What reading an item promises.
pub mod Inner
