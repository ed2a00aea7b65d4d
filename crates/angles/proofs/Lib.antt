-- The laws of the sine that other crates cite.
--     Facts    the table's rule at each entry; neighbouring entries; squares of entries a quarter turn apart
--     Steps    the sine within a quarter and a half turn: it rises, by at most 18 a step
--     Turns    one turn as a number from 0 up to 360,000,000, with no sign
--     Laws     period, oddness, mirror, cosine, size, steps of at most 18, at every angle
--     Squares  the squares of sine and cosine add up to nearly 10^18
--     Near     sines of angles n apart are at most 18 n apart; the sine and cosine of a small angle
pub mod Facts
pub mod Steps
pub mod Turns
pub mod Laws
pub mod Squares
pub mod Near
