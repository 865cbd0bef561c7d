-- The printed lines of both programs, what is promised of them, and examples.
pub mod Lines
pub mod Promises
pub mod Examples
