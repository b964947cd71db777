pub mod Causes
pub mod EndWord
pub mod Fields
pub mod Leaving
pub mod Opens
pub mod Written
