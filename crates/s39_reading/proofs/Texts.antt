-- The texts that are written.
pub mod SecretLines
