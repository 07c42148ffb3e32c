pub mod Visible
pub mod CutLaws
pub mod ExprLaws
pub mod AltLaws
pub mod Laws
pub mod NumberLaws
