pub mod Spelling
pub mod Calls
pub mod InnerContracts
pub mod Lines
pub mod LineContracts
