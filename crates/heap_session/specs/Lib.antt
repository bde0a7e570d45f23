-- A session in heap mode: its memory as the book's session, and when it is good.
pub mod Memory
pub mod Held
pub mod Seen
pub mod Good
pub mod Check
