-- Max-plus algebra: sums are largest values, products are sums. It knows nothing of cues.
pub mod Whole
pub mod Entry
pub mod Finite
pub mod Tables
pub mod Line
pub mod Packing
pub mod Normal
pub mod Sorted
pub mod Above
pub mod Combination
pub mod Latest
