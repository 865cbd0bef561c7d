-- What the code computes on its way. Whoever reads the claim can pass it over.
pub mod Descent
