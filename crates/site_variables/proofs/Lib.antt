pub mod CollectionLaws
pub mod Filled
pub mod LabelLaws
pub mod PlaceLaws
pub mod RestingLaws
mod Rows
