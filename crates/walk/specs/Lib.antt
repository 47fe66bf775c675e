-- The walk as the list of what happens in it, when masks follow a sheet's tables, what a place of it still has to give, the w that a state
-- remembers, and a step; what the functions inside it promise.
pub mod Trace
pub mod Follows
pub mod State
pub mod Remembers
pub mod Steps
pub mod Inner
