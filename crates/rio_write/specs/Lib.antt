pub mod Measuring
pub mod Sinks
pub mod Small
pub mod Writing
