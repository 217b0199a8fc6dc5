pub mod Command
pub mod Words
pub mod Faults
pub mod Jobs
