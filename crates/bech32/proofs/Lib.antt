pub mod Alphabet
pub mod ProgramGroups
pub mod Remainders
pub mod Texts
