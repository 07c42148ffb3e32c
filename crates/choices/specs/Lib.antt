pub mod Texts
pub mod Apply
pub mod Choices
