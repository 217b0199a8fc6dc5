use Rattle.std.proofs.Common.{rules, ◌≡◌, ◌≢◌, ◌-◌, ◌^◌, min, List, [], ◌∷◌, refl, ap, ◌∙◌}
use Rattle.s39_words.specs.declared.ShareFields.{ShareFields}
use Rattle.s39_set.specs.Counting.{quorum_count}
use Rattle.s39_c.specs.Answers.{number}
use Rattle.s39_c.specs.Counting.{set_answer}
use Rattle.s39_c.proofs.counting.set_answer.Goals as goal

-- a set with shares is counted
counted : (set : List ShareFields) → set ≢ [] → number (min (quorum_count set) (2 ^ 64 - 1)) ≡ set_answer set
counted [] some = absurd (some refl)
counted (share ∷ shares) some = refl

pub returns : goal.returns
returns c =
    let some : c.args.set.now ≢ [] = search rules in
    c.quorums.ensures ∙ ap number c.quorum_count_of.ensures ∙ counted c.args.set.now some
