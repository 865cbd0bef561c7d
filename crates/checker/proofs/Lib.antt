-- Laws of the checker's chains of iterators, and that the contracts leave nothing open.
pub mod Chains
pub mod Determined
