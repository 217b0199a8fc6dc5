-- The theory on which the laws of `Field` rest: polynomials over two elements, and the two fields. It stands in `specs`,
-- since these laws may cite that alone. No contract cites it.
pub mod BinaryPolynomials
pub mod Residues
pub mod Powers
