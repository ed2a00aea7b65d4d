-- What the contracts of `sheets` cite: the row of a date, and the rows of a sheet.
pub mod Row
pub mod Sheet
