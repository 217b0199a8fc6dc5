-- The command `reissue`.
pub mod Firsts
pub mod Named
pub mod Given
pub mod Outputs
pub mod OneReissued
pub mod OfBackups
pub mod OneCreated
pub mod Faults
pub mod Written
pub mod Joined
