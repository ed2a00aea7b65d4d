-- The laws of `orbits` that other crates cite.
--     Bounds   every coefficient, every place in the plane and every coordinate has a bound, for any elements in range; step 4's root
--     Terms    the further terms of M: how large they are, and that Table 1 has none
--     Rows     any row whose elements are in range at both ends of a span gives elements in range on every minute of it; both tables' do
--     Moments  what a body has at a moment is in range
--     Answers  what is known of a moment that is accepted for a body
--     Plane    an ellipse like the Earth's keeps away from the Sun
--     Earth    so does the Earth's place by either table, and it stays near the ecliptic
pub mod Bounds
pub mod Terms
pub mod Rows
pub mod Moments
pub mod Answers
pub mod Plane
pub mod Earth
