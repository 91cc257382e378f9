pub mod Addresses
pub mod Dest
pub mod Placeholders
pub mod Slug
pub mod Url
