pub mod Runs
pub mod Reissues
pub mod Resplits
pub mod Lengths
