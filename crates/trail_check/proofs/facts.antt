-- Lemmas that the proofs of the tests cite.
pub mod Least
