pub mod Help
pub mod Jobs
pub mod Literals
pub mod OneCall
pub mod Words
pub mod Faults
pub mod GivenJobs
