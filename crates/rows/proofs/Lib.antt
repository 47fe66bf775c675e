-- Laws of lines of items, from a key to the rows of a table.
pub mod PlaceLaws
pub mod LiteralLaws
pub mod FaultLaws
pub mod RowsLaws
