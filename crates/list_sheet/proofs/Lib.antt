-- The lines of a session in list mode.
pub mod AnyLiterals
