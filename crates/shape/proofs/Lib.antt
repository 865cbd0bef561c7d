-- What belongs to no one function.
pub mod Rows
pub mod Passes
pub mod Determined
