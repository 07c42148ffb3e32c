pub mod Missing
pub mod Fitting
