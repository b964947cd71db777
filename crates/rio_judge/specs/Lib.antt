pub mod Judging
pub mod Lowest
pub mod Stops
pub mod Trees
