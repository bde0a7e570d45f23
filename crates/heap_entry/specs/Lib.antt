-- The entry points of heap mode: what they answer, that calls keep sessions good, what the checks show, and what holds of them.
pub mod Entry
pub mod Kept
pub mod Checked
pub mod Entered
pub mod Term3
pub mod Term2
