pub mod Writing
pub mod Reissue
pub mod Resplit
pub mod Lengths
