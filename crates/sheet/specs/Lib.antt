-- A call sheet: its answers, the run over its lines that gives them, how answers are written, bounds on them, and the first line, clause lines and session lines as code runs them.
pub mod Sheet
pub mod Claim
pub mod Stages
pub mod Writing
pub mod Bounds
pub mod Running
pub mod ClauseLines
pub mod SessionLines
pub mod Counting
pub mod Opening
