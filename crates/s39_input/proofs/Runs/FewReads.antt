-- How often a reader is read.
use Rattle.std.proofs.Common.{◌≡◌, ℕ, ◌+◌, List, [], ◌++◌, length, length-append, Option, Some, inl, inr, ap, arith, subst, ◌∙◌}
use Rattle.std.specs.Io.KnownBytes.{Consumes, IsAtEnd}
use Rattle.s39_input.specs.Runs.{ReadsAreFew}

pub reads_are_few : {R : Type 0} (remaining : R → Option (List ℕ)) → ReadsAreFew remaining
reads_are_few remaining old new bytes left told rest of =
    let all : bytes ≡ of.came ++ left =
    subst (λ (b : Option (List ℕ)). Consumes (Some bytes) b of.came) rest
    (subst (λ (a : Option (List ℕ)). Consumes a (remaining new.device) of.came) told of.consumed) in
    let count : length bytes ≡ length of.came + length left = ap length all ∙ length-append of.came left in
    elim of.so [
      | inl d ↦ (let few = d.few_reads in (omega (arith, few, count), λ some same. omega (arith, few, count)))
      | inr (inl e) ↦ (
          let few = e.few_reads in
          let end : left ≡ [] = subst IsAtEnd rest e.at_end in
          (omega (arith, few, count), λ some same. absurd (some end))
          )
      | inr (inr f) ↦ (
          let few = f.few_reads in
          let more = f.one_failure in
          (omega (arith, few, count), λ some same. absurd (omega (arith, more, same)))
          )
    ]
