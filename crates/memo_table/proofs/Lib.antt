pub mod EntryLaws
pub mod PlaceLaws
pub mod StoredLaws
pub mod NotedLaws
pub mod CountLaws
pub mod KeptLaws
mod Rows
pub mod Crosses
