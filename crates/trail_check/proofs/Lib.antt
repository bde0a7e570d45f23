-- Lemmas that the proofs of the check's functions cite.
pub mod Marks
pub mod Rows
pub mod Reasons
pub mod Checked
