pub mod Calls
pub mod Images
pub mod Kept
pub mod Moments
pub mod PiecesLaws
pub mod RangeLaws
pub mod ReadsLaws
pub mod StopLaws
