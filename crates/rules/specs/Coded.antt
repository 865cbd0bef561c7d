-- What the code computes on its way; a reader of the claim need not read it.
pub mod Level
