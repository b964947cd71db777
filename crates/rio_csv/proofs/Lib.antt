pub mod Again
pub mod BadRows
pub mod ImportLaws
pub mod RecordLaws
pub mod TakingLaws
pub mod UnreadLaws
pub mod ValueLaws
