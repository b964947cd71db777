pub mod Leaves
pub mod Marks
pub mod Reading
pub mod Spelling
pub mod Stated
pub mod ToldPlaces
