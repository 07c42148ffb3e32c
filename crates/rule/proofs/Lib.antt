pub mod MatchLaws
pub mod Formed
pub mod Visible
