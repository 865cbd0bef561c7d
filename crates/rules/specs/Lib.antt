-- Document 01's rules as definitions, which a reader must believe, and what is proved of them.
pub mod Stands
pub mod State
pub mod Shape
pub mod Calls
pub mod Numbers
pub mod Coded
pub mod Statements
pub mod Examples
pub mod Shapes
