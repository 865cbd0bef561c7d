-- How long the lines are, laws of the pairs and of the processes' lines, and that the public contracts determine what is printed.
pub mod Fits
pub mod Pages
pub mod Pairs
pub mod Processes
pub mod Determined
