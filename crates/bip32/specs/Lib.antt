pub mod Derivation
pub mod Paths
pub mod Fingerprint
pub mod Serialization
