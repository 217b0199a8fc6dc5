-- How long texts are.
pub mod Backups
pub mod Reissues
