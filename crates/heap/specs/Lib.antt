-- The heap: the moves of `Heap`, what safety asks of its memory, what it is, and what its moves keep.
pub mod Heap
pub mod Memory
pub mod Room
pub mod Order
pub mod Walks
pub mod Exchange
pub mod Inverses
pub mod Orders
pub mod Members
