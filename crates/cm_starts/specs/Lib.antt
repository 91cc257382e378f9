pub mod Marks
pub mod Answers
pub mod Runs
pub mod HtmlParts
pub mod Order
