-- Laws that belong to no one function:
--     Scan       digits read one byte at a time, and how large their number can be
--     Fields     the first space of a line, the first byte of a number, three fields
--     Long       no request has more than 35 bytes
--     Decimals   a number's digits: those of its tenth, then its last; how many there are
--     Sizes      the size of a signed number, and its sign
--     Puts       bytes put into others, one lot behind another
--     Texts      numbers put one behind another make a line
--     Stream     the listing in parts is the listing
--     Feeds      a part of the input with one byte more
--     Back       a number that was printed reads back as itself
pub mod Scan
pub mod Fields
pub mod Long
pub mod Decimals
pub mod Sizes
pub mod Puts
pub mod Texts
pub mod Stream
pub mod Feeds
pub mod Back
