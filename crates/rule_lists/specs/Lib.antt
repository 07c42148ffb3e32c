pub mod Outcomes
pub mod Lines
pub mod TableContracts
pub mod InnerContracts
pub mod WritingContracts
pub mod Lists
