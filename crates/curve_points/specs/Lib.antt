pub mod Points
pub mod Multiples
pub mod Compressed
pub mod OnCurve
pub mod Jacobian
pub mod Lifted
