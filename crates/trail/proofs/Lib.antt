-- Lemmas that the proofs of going back cite.
pub mod Going
