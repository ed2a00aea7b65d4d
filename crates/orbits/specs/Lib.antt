-- What the contracts of `orbits` cite: the elements, the mean anomaly, the place in HAE, and the answers to a date and a body.
pub mod Elements
pub mod Place
pub mod Range
pub mod Answer
pub mod Examples
