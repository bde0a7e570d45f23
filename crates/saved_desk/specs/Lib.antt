-- Sheets with saved sessions, as a host sees them.
pub mod Outcomes
pub mod Entry
pub mod New
