-- The laws of refusals.
--     Numbers   each number is one from 1 to 255, and no two are the same
--     Handed    a `?` hands a refusal on as it is
pub mod Numbers
pub mod Handed
