pub mod DirCut
pub mod DirLaws
pub mod HeadAgain
pub mod HeadCut
pub mod Lengths
