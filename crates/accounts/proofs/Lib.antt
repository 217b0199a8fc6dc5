pub mod Begun
pub mod HexDigits
pub mod Fronts
pub mod ReadBack
pub mod Forms
