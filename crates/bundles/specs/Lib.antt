pub mod Bundles
pub mod PlaceContracts
pub mod InnerContracts
