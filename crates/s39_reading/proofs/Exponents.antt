-- The exponent of a set.
use Rattle.std.proofs.Common.{◌≡◌, ◌⊎◌, ◌≤◌, ◌<◌, List, [], ◌∷◌, All, None, Option, Ok, refl, sym, ◌∙◌, arith}
use Rattle.std.proofs.lemmas.List.Elements.{All-head}
use Rattle.s39_kdf.specs.declared.params.Params.{Params}
use Rattle.s39_words.specs.declared.ShareFields.{ShareFields}
use Rattle.s39_words.specs.Share.{IsShare}
use Rattle.s39_set.specs.Names.{Names}
use Rattle.s39_set.specs.declared.set_lack.SetLack.{SetLack}
use Rattle.s39_set.specs.ShareSet.{Agrees, IsShareSet}
use Rattle.s39_set.specs.Quorums.{IsFirstQuorumAfter}
use Rattle.s39_set.specs.Lack.{IsLack}
use Rattle.s39_set.specs.SetFacts.{SetsHaveOneLack, SetsWithQuorumsHaveNone}
use Rattle.s39_backup.specs.Outcome.{AreParams}
use Rattle.s39_input.proofs.Steps.{AtMostOne, AtLeastOne, then_once, then_some}
use Rattle.s39_reading.specs.Exponent.{exponent_of, IsExponent}
use Rattle.s39_reading.specs.Recover.{IsLeastOrLack}
use Rattle.s39_reading.proofs.Runs.Recovering.{least_once, least_or_lack}

-- it is that of the cipher's parameters
pub exponent_of_params : (set : List ShareFields) (params : Params) → AreParams set params → params.exponent ≡ exponent_of set
exponent_of_params [] params are = absurd are
exponent_of_params (share ∷ shares) params are = are.2

-- all shares agree in it with the first
pub all_have_exponent : (set : List ShareFields) → IsShareSet set → All (λ share. share.exponent ≡ exponent_of set) set
all_have_exponent [] is = λ k d below. absurd (omega (arith, below))
all_have_exponent (share ∷ shares) is = λ k d below.
    let agrees = All-head (λ s. All (Agrees s) (share ∷ shares)) share shares is.agree k d below in sym agrees.exponent

-- four bits hold it
pub exponent_at_most_15 : (set : List ShareFields) → IsShareSet set → exponent_of set ≤ 15
exponent_at_most_15 [] is = omega arith
exponent_at_most_15 (share ∷ shares) is =
    let share_is = All-head IsShare share shares is.each in let below : share.exponent < 16 = share_is.exponent in omega (arith, below)

-- a set has one, or one lack
pub exponent_once : SetsHaveOneLack → SetsWithQuorumsHaveNone
    → ((set : List ShareFields) (given : Option Names) (names others : Names) → IsFirstQuorumAfter set given names → IsFirstQuorumAfter set given others
    → names ≡ others) → (set : List ShareFields) → AtMostOne (IsExponent set)
exponent_once one_lack no_lack one_first_quorum set =
    then_once (IsLeastOrLack set) _ _ (least_once one_lack no_lack one_first_quorum set) (λ names _ r s p q. p ∙ sym q)

pub some_exponent : ((set : List ShareFields) → IsShareSet set
    → ((names : Names) × IsFirstQuorumAfter set None names) ⊎ ((lack : SetLack) × IsLack set lack)) → (set : List ShareFields) → IsShareSet set
    → AtLeastOne (IsExponent set)
some_exponent quorum_or_lack set is =
    then_some (IsLeastOrLack set) _ _ (least_or_lack quorum_or_lack set is) (λ names _. (Ok (exponent_of set), refl))
