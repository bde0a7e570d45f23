-- Lists of calls in heap mode.
pub mod Lists
