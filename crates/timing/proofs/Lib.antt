-- Laws of the limit on components, of their words, of the order and of the test.
pub mod LimitLaws
pub mod TimeLaws
pub mod NumberLaws
pub mod TestLaws
