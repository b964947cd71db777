pub mod Resolves
pub mod Stored
