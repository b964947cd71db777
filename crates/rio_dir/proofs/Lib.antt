pub mod ClosedLaws
pub mod Examples
pub mod TableLists
pub mod TableOrder
pub mod TableWritten
pub mod TableLaws
pub mod MapLaws
pub mod UnbornPrefix
