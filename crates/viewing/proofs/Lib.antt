-- The laws of `viewing` that other crates cite.
--     Hits       whether a date is a hit, by its own aspect and the cross product before it
--     Laws       what a planet, a step and a count that are taken are; every date of an accepted span is a minute of the table's interval
--     Outcomes   what may become of a call, and that it is answered or refused exactly so
--     Nights     what follows for an answer: the first hit, its place, refusal 12, larger counts
pub mod Hits
pub mod Laws
pub mod Outcomes
pub mod Nights
