-- The laws of `places` that other crates cite.
--     Earth     no length that HEE or HEEQ divides by is 0 on an accepted date; how long a turned vector is
--     Answers   what is known of a place that was found, and of a refusal
--     Tables    what a table changes, and what it does not
--     Opposites opposite vectors have opposite answers, or the same refusal
pub mod Earth
pub mod Answers
pub mod Tables
pub mod Opposites
