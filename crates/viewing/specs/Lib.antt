-- What the contracts of `viewing` cite: which date of a walk is a hit, and the answer to a search.
pub mod Hit
pub mod Viewing
pub mod Span
pub mod Examples
