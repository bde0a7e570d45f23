-- A call sheet, as a host sees it.
pub mod Ran
pub mod Memory
pub mod Opening
pub mod Positions
