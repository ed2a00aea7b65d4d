-- The laws of vectors and rotations. They are public, for the crates above.
--     Lengths   lengths, unit vectors and cross products: their bounds
--     Dots      sums of products: Cauchy's inequality, and what roundings do to lengths and sums
--     Norms     how much longer a turn makes a vector, by its rows
--     Turns     so a turned vector's length has a bound, and the turn overflows nowhere
--     Crosses   unit vectors have nearly the length one, cross products are nearly at right angles
--     Opposites opposite vectors turn into opposites, by any three rows
pub mod Lengths
pub mod Dots
pub mod Norms
pub mod Turns
pub mod Crosses
pub mod Opposites
