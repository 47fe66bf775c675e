-- What is written is read back.
pub mod ItemBack
pub mod LineText
pub mod LineBack
pub mod TextShort
pub mod SoundFits
pub mod TableBack
pub mod ReadBack
pub mod ItemOnly
pub mod LineOnly
pub mod ReadOnly
pub mod WrittenBack
