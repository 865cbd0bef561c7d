-- Document 01's examples as one table.
pub mod Table
