-- How long texts are.
pub mod Statuses
