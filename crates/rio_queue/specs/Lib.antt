pub mod Histories
pub mod Logs
pub mod Refusals
pub mod Steps
