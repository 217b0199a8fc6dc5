-- A set has one lack.
use Rattle.std.proofs.Common.{◌≡◌, List, refl, sym, ap, ◌∙◌, Some, None}
use Rattle.s39_words.specs.declared.share.ShareFields.{ShareFields}
use Rattle.s39_set.specs.declared.set_lack.SetLack.{SetLack}
use Rattle.s39_set.specs.declared.set_lack.SetLack.TheVariants.{NoShares, Incomplete}
use Rattle.s39_set.specs.Quorums.{group_threshold_of}
use Rattle.s39_set.specs.Lack.{IsLack}

pub lack_once : (set : List ShareFields) (lack other : SetLack) → IsLack set lack → IsLack set other → lack ≡ other
lack_once set NoShares NoShares p q = refl
lack_once set NoShares (Incomplete complete required) p q =
    let bad : None ≡ Some required = sym (ap group_threshold_of p) ∙ q.required_is in
    absurd (cc)
lack_once set (Incomplete complete required) NoShares p q =
    let bad : None ≡ Some required = sym (ap group_threshold_of q) ∙ p.required_is in
    absurd (cc)
lack_once set (Incomplete complete required) (Incomplete complete' required') p q =
    let same : complete ≡ complete' = p.complete_is ∙ sym q.complete_is in
    let thresholds : Some required ≡ Some required' = sym p.required_is ∙ q.required_is in
    cc
