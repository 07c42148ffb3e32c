pub mod Sequences
pub mod Sets
pub mod Orders
pub mod Operations
pub mod Choices
pub mod Moves
