pub mod Sights
pub mod Codes
pub mod Named
pub mod Shelves
pub mod Finds
pub mod Copied
pub mod SightLaws
pub mod Indices
