pub mod BlockCases
pub mod Cuts
pub mod Entries
pub mod ExtentLaws
pub mod FlowLaws
pub mod FoldLaws
pub mod Growing
pub mod Halving
pub mod HexBounds
pub mod LineLaws
pub mod Numbers
pub mod Prefixes
pub mod Added
pub mod FrontLemmas
mod Rows
mod BlockScalarRows
mod FlowRows
mod MappingRows
mod QuoteRows
mod ScalarRows
mod SequenceRows
mod TextRows
