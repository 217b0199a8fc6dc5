pub mod Steps
pub mod Measures
pub mod Taking
pub mod Sets
pub mod Texts
pub mod Runs
pub mod Codes
