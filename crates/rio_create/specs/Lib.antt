pub mod Creation
pub mod NewFile
