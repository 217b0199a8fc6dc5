pub mod Xor
pub mod Lengths
pub mod JoinedParts
pub mod ByteValues
pub mod Rounds
pub mod Halves
pub mod Unprintable
