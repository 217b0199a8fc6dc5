-- The texts that are written.
pub mod Decimals
pub mod Names
pub mod AllNames
pub mod NamesShort
pub mod Write
pub mod Fronts
pub mod Emitted
pub mod LineFeeds
pub mod HexDigits
