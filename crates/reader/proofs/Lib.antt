-- What a turn of each loop does, and that the contracts leave nothing open.
pub mod Steps
pub mod Determined
