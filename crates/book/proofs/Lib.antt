-- Term 3 proved: facts of books, the trail's memory by the book, going back, each call, the claim, the claim over another clause list,
-- and over a save.
pub mod Books
pub mod Memory
pub mod Going
pub mod Steps
pub mod Term3
pub mod Letter
pub mod OtherList
pub mod Saved
