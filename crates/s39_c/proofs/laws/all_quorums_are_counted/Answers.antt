use Rattle.std.proofs.Common.{◌-◌, ◌^◌, min, [], ◌∷◌, refl, sym, ap}
use Rattle.s39_c.specs.Answers.{number}
use Rattle.s39_c.proofs.laws.all_quorums_are_counted.Goals as goal

pub returns : goal.returns
returns c [] quorums is some all = absurd (some refl)
returns c (share ∷ shares) quorums is some all =
    ap (λ n. number (min n (2 ^ 64 - 1))) (sym (c.quorums_are_counted.ensures (share ∷ shares) quorums is all))
