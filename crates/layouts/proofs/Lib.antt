-- The laws of numbers in bytes and of layouts. They are public, for the crates above.
--     Numbers     numbers in bytes and back, at any width
--     Layouts     any layout: what is laid out is read, and what is read is laid out again
--     Seams       fields one after the other, as the writer and the reader go over them
pub mod Numbers
pub mod Layouts
pub mod Seams
