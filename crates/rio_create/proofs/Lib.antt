pub mod Born
pub mod Drafts
pub mod Gates
pub mod Images
pub mod Lengths
pub mod NewFiles
pub mod Read
pub mod Uuids
