-- What belongs to no one function.
pub mod Looks
pub mod Values
pub mod Determined
