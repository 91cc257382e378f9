pub mod KeyOrderLaws
pub mod SelectionLaws
