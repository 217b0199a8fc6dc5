pub mod Bitcoin
pub mod Ethereum
pub mod Taproot
pub mod Address
