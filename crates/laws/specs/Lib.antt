-- Laws of tests and of lists, for every crate to cite.
pub mod Tests
pub mod Choices
pub mod Lists
pub mod Each
pub mod Every
pub mod Some
pub mod Pigeonhole
pub mod Ranks
pub mod Prefix
pub mod InPlace
pub mod Parts
pub mod Counts
pub mod Stores
pub mod Options
