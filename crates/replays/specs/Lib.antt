-- What a replay and a written view file are, and what is proved of them.
pub mod Replays
pub mod OrderFile
pub mod Table
pub mod Cuts
pub mod Writes
pub mod Promises
pub mod Examples
pub mod Coded
