-- What a call that moves bytes came to.
pub mod Outcomes
