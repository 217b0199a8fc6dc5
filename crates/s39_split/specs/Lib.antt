pub mod Shares
pub mod Sharing
pub mod Recovery
pub mod Completion
pub mod Mismatch
pub mod Fitting
