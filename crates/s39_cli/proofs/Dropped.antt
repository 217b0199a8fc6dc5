-- What is read in several reads.
use Rattle.std.proofs.Common.{◌++◌, ℕ, List, Option, Result, Ok, Err, take}
use Rattle.std.specs.Io.KnownBytes.{ReadConsumes}
use Rattle.std.proofs.KnownBytes.{Consumes-kept, Consumes-trans}
use Rattle.s39_cli.specs.Terminal.{ConsumesMore}

-- one more read
pub ConsumesMore-read : {E : Type 0} (a b c : Option (List ℕ)) (r : Result ℕ E) (buf : List ℕ) → ConsumesMore a b → ReadConsumes b c r buf
    → ConsumesMore a c
ConsumesMore-read a b c (Ok n) buf more read = (more.0 ++ take n buf, Consumes-trans a b c more.0 (take n buf) more.1 read.0)
ConsumesMore-read a b c (Err e) buf more kept = (more.0, Consumes-kept a b c more.0 more.1 kept)
