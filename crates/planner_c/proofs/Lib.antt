-- How far the numbers of an answer go, the times that are lent, and what comparing and reaching answer.
pub mod Few
pub mod TimesLaws
pub mod CompareLaws
pub mod ReachLaws
pub mod Numbered
