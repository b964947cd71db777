pub mod Fill
pub mod Heads
pub mod Laws
pub mod Parts
pub mod Prepare
pub mod Room
