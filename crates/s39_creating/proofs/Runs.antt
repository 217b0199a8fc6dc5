-- The runs of the commands.
pub mod Creating
pub mod OneCreate
pub mod Causes
pub mod OnePut
