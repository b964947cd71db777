mod Examples
mod WrittenCounters
mod WrittenFits
mod WrittenLeaves
mod WrittenMembers
mod WrittenReads
mod WrittenSaid
pub mod LabelLaws
pub mod MetLaws
pub mod NumberLaws
pub mod HeaderLengths
pub mod StoredLaws
pub mod WrittenLengths
