-- Term 3 for a sheet.
pub mod Term3
pub mod Turns
pub mod Section
pub mod SessionLines
pub mod Opening
pub mod ClauseLines
pub mod Counting
pub mod Steps
pub mod Called
pub mod Replies
pub mod Bounds
pub mod Writing
