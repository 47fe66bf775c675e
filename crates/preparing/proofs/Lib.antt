-- What a good sheet gives on the way to what the operations are made from, in the order in which one file builds on another.
pub mod Results
pub mod LevelLaws
pub mod Laws
pub mod Preparing
pub mod MomentLaws
pub mod RuleLaws
