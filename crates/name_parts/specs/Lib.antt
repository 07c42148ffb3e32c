pub mod Words
pub mod Joining
pub mod InnerContracts
