-- Laws of last moments in words.
pub mod MomentLaws
pub mod GivenLaws
