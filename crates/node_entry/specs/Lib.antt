-- The entry points of list mode over a slice of nodes: why the first nodes decide.
pub mod Fields
pub mod Nodes
