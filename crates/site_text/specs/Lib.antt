pub mod Fronts
pub mod Bytes
pub mod Classes
pub mod Extensions
pub mod Urls
