-- What the contracts of `marking` cite: which row is wrong, and the answer to a marker's call.
pub mod Wrong
pub mod Mark
pub mod Examples
