pub mod ElementClasses
pub mod Heirs
