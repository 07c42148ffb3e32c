pub mod Laws
pub mod Entry
pub mod Places
pub mod Kept
pub mod Finished
pub mod Keys
pub mod Examples
