pub mod Fields
pub mod Import
pub mod Laws
pub mod Rows
pub mod Unread
