pub mod Alphabet
pub mod Characters
pub mod Converted
pub mod Division
pub mod Texts
