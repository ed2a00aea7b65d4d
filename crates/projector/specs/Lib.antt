-- What the contracts of `projector` cite: counts of 10^-7 au as doubles in au.
pub mod Au
pub mod Examples
