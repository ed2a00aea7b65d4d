-- What the contracts of `places` cite: the answer for a date, a body and a frame, a vector turned on a date, and the place in au.
pub mod Answer
pub mod Earth
pub mod Examples
