-- Laws of sets of processes, which the crates above cite.
pub mod Digits
pub mod Laws
pub mod Lines
pub mod Bits
pub mod Determined
