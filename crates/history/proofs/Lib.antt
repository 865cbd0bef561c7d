-- Proofs of specs/Theorems, by topic.
pub mod Moves
pub mod Counts
pub mod Found
pub mod Figure
pub mod Invariant
pub mod Levels
pub mod Answers
pub mod World
pub mod Given
pub mod Snapshot
pub mod Alone
pub mod Demand
pub mod Stays
pub mod Looks
pub mod Theorems
pub mod Bare
pub mod Examples
