-- What the contracts of `angles` cite: the two units, one turn, the table's rule, sine and cosine.
pub mod Unit
pub mod Entry
pub mod Sines
pub mod Sine
pub mod Examples
