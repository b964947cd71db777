pub mod ClosedLaws
pub mod Growth
pub mod HeldWalk
pub mod KnownLaws
pub mod Ways
