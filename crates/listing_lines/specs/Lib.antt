-- What the contracts of `listing_lines` cite: a line's request, a number's decimal digits, the printed line, bytes put into others, what is held of a line, and the listing.
pub mod Request
pub mod Decimal
pub mod Line
pub mod Put
pub mod Held
pub mod Stream
pub mod Examples
