-- What the contracts of `tables` cite: the two tables' rows, further terms and intervals, and the moment of a date by a table.
pub mod Table
pub mod Bodies
