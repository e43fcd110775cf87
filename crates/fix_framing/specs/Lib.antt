-- Part 1. What a reader must believe: the public contracts and laws cite these.
-- what messages begin with, the messages of a log, and the bytes between them
pub mod Headers
pub mod Frames
pub mod Breaks
-- the messages of a log that comes in pieces
pub mod Framing
-- Part 2. What the private functions pass on to one another.
pub mod LengthField
