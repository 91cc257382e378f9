pub mod Feed
pub mod FeedTemplate
pub mod Located
pub mod Sitemap
