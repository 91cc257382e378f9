pub mod ItemLaws
pub mod MemberLaws
pub mod ReadingLaws
pub mod RecordLaws
pub mod TableLaws
