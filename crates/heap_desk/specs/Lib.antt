-- Sheets with saved sessions in heap mode, as code runs them.
pub mod Saving
pub mod Loading
