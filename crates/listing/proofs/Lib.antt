-- Laws that belong to no one function:
--     Sending    bytes that are read and written, one lot behind another, and the listing of them all
pub mod Sending
