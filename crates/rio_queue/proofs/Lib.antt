pub mod HistoryLaws
pub mod LogLaws
pub mod NumberLaws
pub mod RowLaws
pub mod StepLaws
pub mod TakenLaws
