pub mod CutLaws
pub mod FillLaws
pub mod FlagLaws
pub mod Kept
pub mod Lists
pub mod RoomLaws
pub mod Sizes
pub mod SmallLaws
pub mod Walk
pub mod Walked
mod Examples
pub mod TestLaws
