-- What holds of sheets with saved sessions.
pub mod Widths
pub mod Texts
pub mod Joined
pub mod Claims
