pub mod Matching
pub mod InnerContracts
