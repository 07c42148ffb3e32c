pub mod Expressions
pub mod InnerContracts
pub mod Numbers
