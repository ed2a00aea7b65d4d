-- The laws of rows that other crates cite.
--     Taken       the fields of a row that a reader takes hold their numbers; it is good or refused, by its status
--     RoundTrip   what a row's bytes are, and the two round trips
pub mod Taken
pub mod RoundTrip
