-- Sheets with saved sessions.
pub mod Sheets
pub mod Claims
