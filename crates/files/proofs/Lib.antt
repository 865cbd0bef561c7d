-- That the contracts leave nothing open.
pub mod Determined
