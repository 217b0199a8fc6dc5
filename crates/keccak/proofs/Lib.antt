pub mod MoreRounds
pub mod Sponge
