-- The laws of the solver. `Demand` has the theorems that demand 3 names; the others lead there.
--     Rising   any rising function: the nearest grid point, only one, not falling
--     Climb    F at a grid point, raised: it rises, by less than 2·10^9 a step
--     Grid     angles and grid points say the same: errors, and what solves
--     Halving  the function that computes finds the nearest grid point
--     Demand   demand 3
pub mod Rising
pub mod Climb
pub mod Grid
pub mod Halving
pub mod Demand
