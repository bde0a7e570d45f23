-- A run with a saved session: what it comes to, the session behind its lines, and what was loaded of a text.
pub mod Outcomes
pub mod Sizes
pub mod Ends
pub mod Behind
pub mod Holding
pub mod Carried
