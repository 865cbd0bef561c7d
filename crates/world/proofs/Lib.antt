-- Laws of lists of calls, of two takers of which one follows the other, and of worlds.
pub mod Laws
pub mod Follows
pub mod Accesses
pub mod Examples
