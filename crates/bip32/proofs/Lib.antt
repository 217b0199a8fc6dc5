pub mod Hashed
pub mod Sums
pub mod Steps
