pub mod Fields
pub mod Lines
pub mod Files
pub mod Grammar
pub mod LineExamples
pub mod Numbers
pub mod InnerContracts
