-- A session in list mode: its memory as the book's session, and when it is good.
pub mod Memory
pub mod Good
pub mod Check
pub mod Scratch
pub mod Kept
