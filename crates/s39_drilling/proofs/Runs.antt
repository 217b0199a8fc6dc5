-- The runs of the command.
pub mod Causes
