pub mod Rules
pub mod InnerContracts
