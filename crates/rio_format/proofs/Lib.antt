pub mod AllRead
pub mod BaseDepth
pub mod BaseLaws
pub mod BuiltInLaws
pub mod ChainLaws
pub mod ClassEqualLaws
pub mod Closed
pub mod Composed
pub mod ComposedLengths
pub mod ComposedSpells
pub mod CounterLaws
pub mod DepthLaws
pub mod Examples
pub mod FaultExamples
pub mod FieldLaws
pub mod FittingRead
pub mod ForgetLaws
mod Found
mod FrameExamples
mod GrowthExamples
pub mod GrowthLaws
pub mod Kept
pub mod LeadLaws
mod ListLaws
mod LongestLaws
pub mod MapLaws
pub mod MemberLaws
pub mod NameLaws
pub mod NewestLaws
pub mod ObjectLaws
pub mod ObjectStays
pub mod Picks
pub mod PlaceLaws
mod PlainNames
pub mod PutLaws
pub mod ReadableMembers
mod Spelled
pub mod Stays
pub mod Tests
mod Told
pub mod ValueCases
pub mod ValueEqualLaws
pub mod WrittenArrays
pub mod WrittenBodies
pub mod WrittenFields
pub mod WrittenLists
pub mod WrittenNumbers
pub mod WrittenObjects
pub mod WrittenParts
pub mod WrittenPlaces
pub mod WrittenPointers
pub mod WrittenValues
pub mod WrittenWays
