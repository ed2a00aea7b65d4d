-- What the contracts of `dates` cite: the minute of a date, its test against an interval, and what a rate comes to.
pub mod Minute
pub mod Moment
pub mod Reach
pub mod Examples
