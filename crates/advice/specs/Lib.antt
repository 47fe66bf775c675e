-- What the programs tell a person about a refusal.
pub mod Advice
