pub mod FileLaws
pub mod NameLaws
pub mod LanguageLaws
pub mod GuessLaws
pub mod LoadingLaws
pub mod Accepted
