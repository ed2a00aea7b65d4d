-- The laws of `marking`, and what 02, Item 5 asks to be shown.
--     Laws     the answer by what its tests told, and what a count and an allowance in range are
--     Rows     which row is wrong: no row, a refused one, or one further off; every other is right
--     Marks    what may become of a sheet that is handed in: 10, 8, the first wrong row, or good
--     Own      at allowance 0 good means equal to our own rows; a sheet of ours is wrong only where it is refused
pub mod Laws
pub mod Rows
pub mod Marks
pub mod Own
