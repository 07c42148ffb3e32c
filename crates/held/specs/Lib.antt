pub mod Met
pub mod Files
pub mod InnerContracts
