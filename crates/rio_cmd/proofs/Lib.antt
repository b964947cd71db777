pub mod FurtherLaws
pub mod ImportWordLaws
pub mod KnownTrees
pub mod LeafLaws
pub mod LineLaws
pub mod TreeLines
