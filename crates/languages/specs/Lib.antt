pub mod Sets
pub mod Names
pub mod InnerContracts
pub mod Numbers
