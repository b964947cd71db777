pub mod ImportWords
pub mod Known
