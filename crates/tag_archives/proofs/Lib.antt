mod Rows
pub mod EntryLaws
pub mod GatheringLaws
pub mod GroupLaws
pub mod Laws
pub mod PageLaws
pub mod PathLaws
pub mod SlugLaws
