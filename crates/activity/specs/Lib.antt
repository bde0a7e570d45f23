-- Activities and their step as doubles: the numbers of document 01, the step record, the order, and the bounds.
pub mod Doubles
pub mod Step
pub mod Upright
pub mod Rounding
pub mod Bounds
