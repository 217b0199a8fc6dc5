pub mod Texts
pub mod Runs
pub mod Exponents
pub mod Decryptions
pub mod OneRound
pub mod Statuses
pub mod Lengths
