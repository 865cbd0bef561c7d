-- The clauses of the shape computed, the laws of the definitions, and what the declared types say.
pub mod Clauses
pub mod Laws
pub mod Typed
