pub mod Sets
pub mod BufferContracts
pub mod Passes
pub mod InnerContracts
