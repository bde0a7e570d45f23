-- The numbers of document 01, and what literals and values are.
pub mod Numbers
pub mod Lits
pub mod Unused
pub mod Refusals
