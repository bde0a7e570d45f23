-- Sheets with saved sessions in list mode, as code runs them.
pub mod Saving
pub mod Loading
