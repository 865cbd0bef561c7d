-- What the calls compute on their way.
pub mod Coded
