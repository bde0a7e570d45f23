pub mod OnTrail
pub mod Checks
pub mod Entered
pub mod Kept
pub mod Outcomes
pub mod Runs
