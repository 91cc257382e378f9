pub mod CellLaws
pub mod DelimiterLaws
pub mod EscapeLaws
pub mod RowLaws
pub mod WhiteLaws
pub mod TableLaws
