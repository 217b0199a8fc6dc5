pub mod Exponent
pub mod Recover
pub mod Encrypted
pub mod Slices
pub mod Lengths
pub mod Status
