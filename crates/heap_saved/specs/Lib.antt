-- Saved sessions in heap mode.
pub mod Reader
pub mod Sound
pub mod Loading
pub mod Reading
pub mod Claims
pub mod InARow
pub mod Pieces
