pub mod Applies
pub mod Demands
