pub mod Moments
pub mod FeedFiles
pub mod Full
pub mod Builds
pub mod Steps
pub mod RoundLaws
pub mod Rebuilding
pub mod Lines
mod Looking
pub mod RenderedPosts
pub mod Resting
mod Unchanged
mod BaseLaws
pub mod TreeLaws
