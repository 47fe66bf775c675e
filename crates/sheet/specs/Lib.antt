-- A sheet (document 01): its grammar and reading's refusals, what it means, the cue that the method makes of it, and refusal 8.
pub mod Text
pub mod Sheet
pub mod Sizes
pub mod Meaning
pub mod Asked
pub mod Cue
pub mod Spread
pub mod Overruns
pub mod Good
pub mod Ordered
pub mod Times
pub mod Admitted
pub mod Fits
