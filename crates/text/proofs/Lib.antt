-- Examples, and laws of parts one after another, of decimal digits and of stored bytes.
pub mod Examples
pub mod Parts
pub mod Decimal
pub mod Stores
