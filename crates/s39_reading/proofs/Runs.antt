-- The runs of the commands.
pub mod Recovering
pub mod Causes
pub mod WholeTexts
pub mod OneCreated
