-- The trail of `trail.rs` as memory, its operations, and the facts of a good trail.
pub mod Trail
pub mod Memory
pub mod Good
pub mod At
pub mod Laws
pub mod Undoing
pub mod Back
pub mod Unit
pub mod Since
pub mod Undone
