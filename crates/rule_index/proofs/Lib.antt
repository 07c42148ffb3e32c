pub mod CellLaws
pub mod NumberedLaws
pub mod RowLaws
pub mod GuessLaws
pub mod IndexLaws
pub mod MatchLaws
