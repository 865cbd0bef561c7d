-- Lists of calls, the published algorithm, and what is proved of them.
pub mod Figure
pub mod Demand
pub mod AsWorld
pub mod IsFigure
pub mod Runs
pub mod Views
pub mod Theorems
pub mod Examples
