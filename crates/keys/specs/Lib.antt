pub mod InnerContracts
