-- The text of a saved session: what it says, how it is read, and that the one is the inverse of the other; laws of reading and writing it piece by piece; its length.
pub mod Saved
pub mod Reading
pub mod Fields
pub mod Read
pub mod Examples
pub mod Greatest
pub mod Numbers
pub mod Cursor
pub mod CursorLaws
pub mod Form
pub mod FormLaws
pub mod Writing
pub mod Length
pub mod Puts
pub mod Sinks
pub mod Written
