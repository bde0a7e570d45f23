pub mod Distinct
pub mod Replies
pub mod Marks
pub mod Alls
