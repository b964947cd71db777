pub mod Entries
pub mod Limits
pub mod RefusalText
pub mod RowEntries
pub mod Rows
pub mod State
