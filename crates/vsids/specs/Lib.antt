-- The heap chooser: the operations of `VSIDS`, what a good heap is and stays, what `get_next` answers, and the check of lent memory.
pub mod Vsids
pub mod Memory
pub mod View
pub mod Good
pub mod Scoring
pub mod Choice
pub mod Check
pub mod Untouched
pub mod Outside
