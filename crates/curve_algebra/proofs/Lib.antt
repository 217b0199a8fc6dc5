pub mod Polynomials
pub mod Lucas
pub mod Pigeons
pub mod Fermat
pub mod Table
pub mod Certificates
pub mod Quotients
