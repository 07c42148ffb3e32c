pub mod Longest
pub mod PrefixLaws
