-- What a file is: the definitions of document 01, section "Files".
pub mod Numbers
pub mod Records
pub mod Views
pub mod ViewFile
pub mod Range
pub mod Table
pub mod Cuts
pub mod Promises
pub mod Examples
