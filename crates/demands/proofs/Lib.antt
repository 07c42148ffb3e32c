pub mod Applies
pub mod Demand3
pub mod Examples
