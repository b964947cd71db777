pub mod Closed
pub mod Grammar
pub mod KeyList
pub mod Listing
pub mod Table
pub mod TableMap
pub mod Unborn
