pub mod NameLaws
pub mod Laws
pub mod CodedLaws
pub mod NumberLaws
