-- Lists of calls in list mode.
pub mod Lists
