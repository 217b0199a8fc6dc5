-- A text of names that is written out.
use Rattle.std.proofs.Common.{◌++◌, [], ◌∷◌, codes, ap, arith, length, nat_lt, rules, sym, true≢false}
use Rattle.std.proofs.lemmas.Fmt.{decimal_digit}
use Rattle.clap.specs.Words.{Text}
use Rattle.s39_set.specs.Names.{Names}
use Rattle.s39_set.specs.Written.{IsWrittenForm}

pub names_literal : IsWrittenForm (codes "0.0") ((0, 0) ∷ [])
names_literal = record {
  some = λ same. absurd (true≢false (ap (λ (l : Names). nat_lt 0 (length l)) same));
  are_names = record { ascending = search rules; groups = search rules; members = search rules };
  text_is = ap (λ (t : Text). t ++ 46 ∷ t) (sym (decimal_digit 0 (omega arith)));
}
