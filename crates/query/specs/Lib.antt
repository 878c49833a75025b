pub mod Figures
pub mod Query
pub mod Corrected
pub mod ByBudget
pub mod Executions
pub mod Examples
