pub mod ClassAmounts
pub mod ListGrowth
pub mod MemberLaws
pub mod NamedAmounts
pub mod WrittenLists
