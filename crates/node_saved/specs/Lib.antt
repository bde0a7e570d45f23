-- Saved sessions over a slice of nodes: why the first nodes decide.
pub mod First
