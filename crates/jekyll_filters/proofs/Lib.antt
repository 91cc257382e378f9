pub mod GroupLaws
pub mod JsonLaws
pub mod SentenceLaws
