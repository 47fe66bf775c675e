-- Laws of the sentences.
pub mod AdviceLaws
