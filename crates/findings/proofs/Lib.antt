-- Laws of the findings and of the verdict, and examples.
pub mod Agreement
pub mod First
pub mod Accepts
pub mod Pairs
pub mod FirstBreak
pub mod Verdicts
pub mod Examples
