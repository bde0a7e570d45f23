-- What holds of runs with saved sessions.
pub mod Small
