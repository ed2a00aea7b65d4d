-- What the contracts of `layouts` cite: numbers in bytes, and fields of any widths.
pub mod Bytes
pub mod Layout
