-- The check of a lent trail says what the facts of a good trail say.
pub mod Checked
pub mod Check
