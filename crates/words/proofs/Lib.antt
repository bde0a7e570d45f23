pub mod Going
pub mod Alone
pub mod Entered
pub mod InARow
