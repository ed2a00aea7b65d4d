-- The laws of `tables` that other crates cite.
--     Laws     what follows from a moment by a table's interval
--     Bodies   what follows from the body of a number
pub mod Laws
pub mod Bodies
