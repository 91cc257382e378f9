pub mod Clashing
pub mod CodeLaws
pub mod DecimalLaws
pub mod Entries
pub mod LinesLaws
pub mod PastLaws
pub mod SortLaws
pub mod Sorting
pub mod ValueLaws
pub mod Weights
pub mod IndexLaws
mod Drops
