-- The laws of `sheets` that other crates cite.
--     Laws     the row call and the sheet call by what their tests told
--     Sheets   every written row is a row, is read with its own fields, and is that of its own date; the good ones are those counted
pub mod Laws
pub mod Sheets
