-- The program carry: the names of its files.
pub mod Names
