-- How long texts are.
pub mod FirstLines
