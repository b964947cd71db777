pub mod Further
pub mod Laws
pub mod Marks
pub mod Quoted
pub mod Reading
pub mod Tokens
pub mod Words
