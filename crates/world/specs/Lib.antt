-- Programs that are register accesses and nothing else, the world that they run in, and lists of calls.
pub mod Programs
pub mod Calls
pub mod Counts
pub mod World
pub mod Accesses
pub mod Statements
pub mod Examples
