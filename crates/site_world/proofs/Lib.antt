mod Keyed
mod Pushes
mod Digits
mod Apart
mod BelowPosts
mod PostLaws
mod CopiedSums
mod FormLaws
mod SourceLaws
mod TextCodes
mod Loops
mod FileTexts
pub mod Crosses
mod Rows
