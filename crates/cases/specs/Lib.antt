-- Cases A to L of document 01 and its worked sheet, through one shared claim, computed from the definitions.
pub mod Claim
pub mod Machines
pub mod Runs
pub mod States
pub mod Definitions
pub mod Cases
pub mod Sheet
