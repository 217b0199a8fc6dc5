-- Facts that proofs in `src` cite.
pub mod LongLines
