pub mod Saying
mod ShownLaws
