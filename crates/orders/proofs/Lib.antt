-- Laws of the view writer's file, and that the contracts leave nothing open.
pub mod Places
pub mod Stored
pub mod Determined
