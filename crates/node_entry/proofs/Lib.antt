-- What the functions over nodes share.
pub mod Parts
