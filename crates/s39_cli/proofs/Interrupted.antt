-- What a writer holds after interrupted writes, which leave it as it was, and one more.
use Rattle.std.proofs.Common.{◌++◌, ℕ, List, Option, Some, None, Result, Ok, Err, ap, ◌∙◌, take}
use Rattle.std.specs.Io.KnownBytes.{Keeps, Appends, WriteAppends}
use Rattle.std.proofs.KnownBytes.{Keeps-trans}

Appends-after_kept : (a b c : Option (List ℕ)) (bs : List ℕ) → Keeps a b → Appends b c bs → Appends a c bs
Appends-after_kept None b c bs kept more = tt
Appends-after_kept (Some xs) None c bs kept more = absurd kept
Appends-after_kept (Some xs) (Some ys) None bs kept more = absurd more
Appends-after_kept (Some xs) (Some ys) (Some zs) bs kept more = more ∙ ap (λ front. front ++ bs) kept

pub WriteAppends-after_kept : {E : Type 0} (a b c : Option (List ℕ)) (r : Result ℕ E) (buf : List ℕ) → Keeps a b → WriteAppends b c r buf
    → WriteAppends a c r buf
WriteAppends-after_kept a b c (Ok n) buf kept wrote = Appends-after_kept a b c (take n buf) kept wrote
WriteAppends-after_kept a b c (Err e) buf kept wrote = Keeps-trans a b c kept wrote
