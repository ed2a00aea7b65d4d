-- The laws of frames. They are public, for the crates above.
--     Numbers   what follows from the frame of a number
--     Choice    which frames have rows; vectors within ±500,000,000
--     Rows      the numbers of GEI, HCI and the solar axis
--     Earth     no length that HEE or HEEQ divides by is 0
--     Frames    each frame's rotation, and RTN's, hardly stretches a vector
--     Opposites opposite vectors turn into opposites, between frames and by RTN
pub mod Numbers
pub mod Choice
pub mod Rows
pub mod Earth
pub mod Frames
pub mod Opposites
