pub mod Names
pub mod Entries
pub mod NameKeys
pub mod SameNames
pub mod Stored
pub mod Lending
