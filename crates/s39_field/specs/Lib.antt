pub mod BinaryPolynomial
pub mod FieldProduct
pub mod Field
pub mod Polynomial
pub mod Interpolation
pub mod PowerSums
pub mod Theory
