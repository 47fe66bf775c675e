-- Laws of weighing lines, of the outcomes, and what is promised of the timing and the list.
pub mod WeighedLaws
pub mod HandLaws
pub mod WordsLaws
pub mod EarlyLaws
pub mod ReachLaws
pub mod Promise
