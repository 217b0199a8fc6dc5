-- The set of an input.
pub mod OneSet
pub mod Mates
pub mod Judgements
pub mod MateLines
pub mod Collected
pub mod WithShare
pub mod Refusals
pub mod Checked
pub mod BackupSets
pub mod WrittenLines
pub mod WholeTexts
