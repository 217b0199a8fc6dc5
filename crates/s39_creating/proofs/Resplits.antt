-- The command `resplit`, and what is written of an encrypted secret.
pub mod Outputs
pub mod FromEncrypted
pub mod OfBackups
