-- The lines of a session.
pub mod Lines
