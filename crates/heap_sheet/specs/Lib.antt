-- The session that the first line behind the clause lines meets, in heap mode.
pub mod Sizes
pub mod Start
pub mod Lines
