pub mod LineLaws
pub mod NumberLaws
pub mod RowLaws
pub mod ScriptLaws
pub mod SumLaws
