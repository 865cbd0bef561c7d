-- What the layers of files and printed lines share: text as bytes, parts one after another, decimal digits, bytes stored from a place on.
pub mod Ascii
pub mod Parts
pub mod Decimal
pub mod Stores
