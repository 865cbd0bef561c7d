-- What the replay and the view writer compute on their way.
pub mod Coded
