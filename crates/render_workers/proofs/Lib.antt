pub mod FoldLaws
pub mod WhyLaws
pub mod KeepLaws
pub mod OneWorker
pub mod FreshLaws
pub mod TryLaws
pub mod RoundLaws
pub mod AnewLaws
pub mod TallyLaws
pub mod WorkerLaws
pub mod CollectLaws
pub mod PlaceLaws
pub mod Crosses
mod Rows
