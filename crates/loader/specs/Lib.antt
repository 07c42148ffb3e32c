pub mod Files
pub mod Languages
pub mod Guesses
pub mod Loading
pub mod InnerContracts
