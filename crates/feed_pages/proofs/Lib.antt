mod FeedRows
pub mod SitemapLaws
mod SitemapRows
