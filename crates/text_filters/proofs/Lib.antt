pub mod ChangeLaws
pub mod CharacterLaws
pub mod MarkLaws
pub mod PartLaws
pub mod SplitLaws
pub mod StretchLaws
pub mod UrlLaws
pub mod WordLaws
