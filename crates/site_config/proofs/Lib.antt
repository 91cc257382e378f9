pub mod ListLaws
pub mod TableLaws
pub mod ConfigLaws
pub mod SeenLaws
