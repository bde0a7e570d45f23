-- Calls and answers in words: what they mean, how they are read, and what a list of them comes to.
pub mod Words
pub mod Kinds
pub mod Said
pub mod Read
pub mod Going
pub mod Entered
