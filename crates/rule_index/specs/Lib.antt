pub mod Places
pub mod Matching
pub mod Rows
pub mod GuessContracts
pub mod InnerContracts
