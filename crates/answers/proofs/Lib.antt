-- The law that the exported solver cites.
pub mod Solved
