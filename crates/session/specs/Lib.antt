-- Calls as code has them, and what an entry point answers.
pub mod Calls
pub mod Entry
pub mod OnTrail
pub mod Asked
pub mod Checks
pub mod Mode
pub mod Sizes
pub mod Kept
pub mod Entered
pub mod Runs
