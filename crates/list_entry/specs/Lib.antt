-- The entry points of list mode: what they answer, what their checks show, and what holds of them.
pub mod Entry
pub mod Checked
pub mod Entered
pub mod Term3
pub mod Term2
