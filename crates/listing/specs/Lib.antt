-- What the contracts of `listing` cite: what is read and written.
pub mod Listing
