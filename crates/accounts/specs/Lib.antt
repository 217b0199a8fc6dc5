pub mod Paths
pub mod Accounts
pub mod Shown
pub mod Texts
