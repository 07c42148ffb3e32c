pub mod Laws
pub mod PutLaws
