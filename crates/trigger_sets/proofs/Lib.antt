-- Laws of bytes as sets of triggers, in the order in which one file builds on another.
pub mod Tests
pub mod BitLaws
pub mod SetLaws
pub mod MemberLaws
pub mod ByteLaws
