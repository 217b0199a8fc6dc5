-- The command `drill`.
pub mod Counts
pub mod Drilling
pub mod LinesOfDrills
pub mod Filling
pub mod Weaker
pub mod Complete
pub mod OneDrill
pub mod OneListing
pub mod Outputs
pub mod OneCreated
pub mod WholeTexts
pub mod Running
pub mod Watching
pub mod Told
