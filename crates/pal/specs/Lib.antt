pub mod Tables
pub mod Scopes
pub mod Parts
pub mod ProcedureNames
pub mod Verdicts
pub mod Costs
