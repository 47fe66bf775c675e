-- Cases of the operations.
pub mod Case
pub mod Cases
pub mod LandCases
pub mod SpareCases
pub mod LastCases
pub mod RuleCases
