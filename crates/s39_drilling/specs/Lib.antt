pub mod Drill
pub mod Slices
pub mod Lengths
pub mod Watching
