-- No step of the trail, no call and no turn reads the level of an unassigned variable; both modes under it.
pub mod Trails
pub mod Calls
pub mod Rows
pub mod Modes
