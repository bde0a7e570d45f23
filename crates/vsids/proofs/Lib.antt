-- Laws that only this crate's proofs cite.
pub mod Loops
pub mod Choice
pub mod Fresh
pub mod Kept
pub mod Outside
pub mod Scoring
pub mod Untouched
pub mod Check
