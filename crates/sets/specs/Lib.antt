-- What a set of processes is, what views of processes must obey, and how a table of numbers is read.
pub mod Members
pub mod Sets
pub mod Immediate
pub mod Lines
