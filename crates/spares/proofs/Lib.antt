-- Laws of the triggers in use as words.
pub mod TiedLaws
pub mod AgreeLaws
pub mod PlaceLaws
pub mod PickedLaws
pub mod LaidLaws
