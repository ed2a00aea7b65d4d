-- What the contracts of `frames` cite: the frames, what they ask of the Earth's place, the answer, RTN.
pub mod Frame
pub mod Frames
pub mod Range
pub mod Answer
pub mod Rtn
pub mod Examples
