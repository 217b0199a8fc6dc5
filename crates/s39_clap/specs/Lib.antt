pub mod Arguments
pub mod Faults
pub mod Found
pub mod Options
