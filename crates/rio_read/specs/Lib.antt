pub mod FirstFault
pub mod Lists
pub mod Members
pub mod Passing
pub mod Reading
