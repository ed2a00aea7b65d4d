-- What the contracts of `integers` cite: ranges, floor division, the product over 10^9, the whole square root; and definitions
-- that several crates cite: a number by its sign and size, triples of numbers, bytes in a buffer, the first thing that a test picks.
pub mod Range
pub mod Floor
pub mod Root
pub mod Sign
pub mod Triple
pub mod Buffer
pub mod First
