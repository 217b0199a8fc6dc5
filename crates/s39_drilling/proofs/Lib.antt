pub mod Runs
pub mod Drills
pub mod Lengths
