pub mod Laws
pub mod Order
pub mod Moves
