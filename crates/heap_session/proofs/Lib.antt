-- What the proofs of the calls need: what was found, and the answer of each outcome of a call.
pub mod Outcomes
