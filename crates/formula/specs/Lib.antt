-- The clause list and its check.
pub mod Clauses
pub mod Good
pub mod Reading
pub mod Adding
pub mod Checks
pub mod Marks
pub mod Distinct
pub mod Replies
