-- What hosts are told of saved sessions.
pub mod Told
pub mod Counts
