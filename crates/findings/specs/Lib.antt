-- What the checker finds in views, and the verdict of a view file.
pub mod Findings
pub mod Verdict
pub mod Properties
pub mod Statements
pub mod Examples
