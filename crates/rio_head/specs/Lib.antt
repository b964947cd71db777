pub mod Dir
pub mod FaultName
pub mod Form
pub mod Head
pub mod Laws
pub mod ReasonName
pub mod Uuid
pub mod Written
