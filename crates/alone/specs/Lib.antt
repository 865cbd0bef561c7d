-- What finishing alone computes on its way.
pub mod Coded
