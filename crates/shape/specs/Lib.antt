-- What the shape test computes on its way.
pub mod Coded
