pub mod Counts
pub mod Each
pub mod FaultLaws
pub mod PassedParts
pub mod Passing
pub mod ReadLaws
pub mod Steps
