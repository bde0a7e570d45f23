-- Sessions that are read back as one: no call tells them apart, nor does any row of turns.
pub mod Same
pub mod Rows
