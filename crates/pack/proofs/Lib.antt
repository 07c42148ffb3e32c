pub mod Readers
pub mod Judging
pub mod RuleLaws
pub mod GuessLaws
pub mod SectionLaws
pub mod Laws
pub mod NumberLaws
