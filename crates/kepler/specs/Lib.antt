-- What the contracts of `kepler` cite: Kepler's equation, what solves it, a function that computes it, the answer.
pub mod Equation
pub mod Eccentric
pub mod Answer
pub mod Search
