pub mod Secrecy
pub mod Rows
