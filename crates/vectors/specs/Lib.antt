-- What the contracts of `vectors` cite: vectors and rotations, and the ranges in which they overflow nowhere.
pub mod Vector
pub mod Range
