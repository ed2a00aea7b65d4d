-- The laws of dates that other crates cite stand in Laws.
--     Fields   the minute of a double by the fields of its bits
--     Laws     what follows from a moment, and bounds of a drift
pub mod Fields
pub mod Laws
