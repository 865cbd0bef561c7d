-- What belongs to no one function.
pub mod Descent
pub mod Determined
