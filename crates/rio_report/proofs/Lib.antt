pub mod Dumps
mod Examples
mod FaultExamples
mod FormExamples
pub mod Gather
pub mod Infos
pub mod LineByLine
pub mod Lines
pub mod PiecesCauses
pub mod SavedSums
pub mod Scans
pub mod SeenLaws
pub mod Summaries
pub mod Trees
pub mod ValueTexts
pub mod WholeLines
