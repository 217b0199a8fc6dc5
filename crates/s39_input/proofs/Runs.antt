-- The runs of the commands.
pub mod Devices
pub mod Writing
pub mod Causes
pub mod EachOutput
pub mod Answered
pub mod PrintedLines
pub mod Repaired
pub mod FewReads
