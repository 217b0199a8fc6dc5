-- The version of the library.
use Rattle.std.specs.Prelude.{ℕ, List, codes}

-- as SHAMIR_VERSION in the header
abbrev pub version : List ℕ
version = codes "1.0.0"
