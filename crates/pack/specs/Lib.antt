pub mod Places
pub mod Packs
pub mod PlaceContracts
pub mod Guessing
pub mod InnerContracts
pub mod Numbers
