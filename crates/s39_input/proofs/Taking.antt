-- The lines of an input, and how they are taken.
pub mod PartsBetweenLineFeeds
pub mod Reading
pub mod SaidByLines
pub mod RunsOfLines
