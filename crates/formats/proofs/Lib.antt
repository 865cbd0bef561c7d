-- The examples, and laws of files, which the crates above cite.
pub mod Examples
pub mod Tests
pub mod Values
pub mod Reading
pub mod Turns
pub mod Table
pub mod Walked
pub mod Ranges
pub mod WholeFile
pub mod Cuts
pub mod Shortened
pub mod Bytes
pub mod Typed
pub mod RoundTrip
