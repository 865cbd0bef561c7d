-- Laws of replays and of written views, and examples.
pub mod Turns
pub mod Views
pub mod Writes
pub mod Orders
pub mod WholeFile
pub mod Cuts
pub mod Shortened
pub mod OrderFile
pub mod FileOfCalls
pub mod Promises
pub mod Examples
pub mod Looked
pub mod RoundTrip
pub mod Checked
