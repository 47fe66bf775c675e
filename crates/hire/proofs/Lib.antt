-- The program.
pub mod CallLaws
pub mod OutputLaws
pub mod AskedLaws
