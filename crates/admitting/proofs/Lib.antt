-- The numbers of the refusals with which every operation on a sheet and a timing begins.
pub mod Known
