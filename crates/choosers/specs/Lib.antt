-- The choosers of both modes, and that each meets the book's interface.
pub mod Heap
pub mod List
pub mod Terms
