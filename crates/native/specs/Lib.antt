-- The small states of a session as hosts lend them.
pub mod Numbers
pub mod Small
