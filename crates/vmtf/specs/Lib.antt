-- The move-to-front list of `VMTF` as memory, its operations, and the facts of a good list.
pub mod Vmtf
pub mod Laws
pub mod Order
pub mod Good
pub mod Moves
pub mod Sort
pub mod Fresh
pub mod Choice
pub mod Check
