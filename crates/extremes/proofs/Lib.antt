-- Laws of the test for extreme.
pub mod ClosureLaws
pub mod ExtremeLaws
