-- Reading an input: counts of bytes at the start of a buffer.
pub mod Counts
