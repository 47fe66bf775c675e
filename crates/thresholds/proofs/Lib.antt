-- Laws of pulls, of marks and of the bytes of kept triggers.
pub mod ThresholdLaws
