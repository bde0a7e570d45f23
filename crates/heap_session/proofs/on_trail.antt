-- What the proofs of these calls need: going back in heap mode, what a decide found, and the answer of going back.
pub mod Going
pub mod Needed
pub mod Outcomes
