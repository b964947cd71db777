pub mod GivenLaws
pub mod PartLaws
pub mod ScanLaws
