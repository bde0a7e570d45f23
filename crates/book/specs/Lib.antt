-- Term 3: the calls, the book that is kept of them and its letter, a chooser as operations and laws, a session's step and its going back,
-- the claim, a session that was saved and read back, and calls as they were read.
pub mod Calls
pub mod Book
pub mod Letter
pub mod Chooser
pub mod Session
pub mod Mapped
pub mod Interleaved
pub mod Claim
pub mod Saved
pub mod Read
