-- Laws of comparing.
pub mod LineLaws
pub mod SameLaws
