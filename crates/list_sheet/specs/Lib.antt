-- The session that the first line behind the clause lines meets, in list mode.
pub mod Sizes
pub mod Start
pub mod Lines
