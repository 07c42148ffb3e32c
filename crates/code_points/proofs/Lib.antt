pub mod Bytes
pub mod Cuts
pub mod Sets
pub mod Passes
pub mod Packs
pub mod Words
pub mod Names
pub mod Calls
