-- Laws of the argument's times and of its one whole number.
pub mod TimesLaws
pub mod WholeLaws
