pub mod Archives
pub mod Gathering
pub mod Listing
pub mod Slugs
