-- The demands from the bytes to the words, and laws of planning.
pub mod Demands
pub mod PlanLaws
