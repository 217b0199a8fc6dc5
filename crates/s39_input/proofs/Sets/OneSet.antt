-- An input is read as one set, or refused for one cause.
use Rattle.std.proofs.Common.{◌≡◌, List, Result, Ok, Err}
use Rattle.s39_words.specs.declared.ShareFields.{ShareFields}
use Rattle.s39_set.specs.ShareSet.{IsShareSet}
use Rattle.s39_input.specs.declared.fault.LineRefusal.{LineRefusal}
use Rattle.s39_input.specs.declared.fault.Stop.{Stop}
use Rattle.s39_input.specs.Input.{Input}
use Rattle.s39_input.specs.Accepted.{IsReadAs}

-- an input is read as one thing
abbrev pub InputsAreReadOnce : Type 0
InputsAreReadOnce = (input : Input) (answer another : Result (List ShareFields) (Stop LineRefusal)) → IsReadAs input answer → IsReadAs input another
    → answer ≡ another

-- what an input is accepted as is a share set
abbrev pub AcceptedAreShareSets : Type 0
AcceptedAreShareSets = (input : Input) (set : List ShareFields) → IsReadAs input (Ok set) → IsShareSet set

module _ (one_set : InputsAreReadOnce) (input : Input) (set : List ShareFields) where
  pub same_set : (other : List ShareFields) → IsReadAs input (Ok set) → IsReadAs input (Ok other) → other ≡ set
  same_set other p q = let both = one_set input (Ok set) (Ok other) p q in cc

  pub not_accepted_and_refused : (stop : Stop LineRefusal) → IsReadAs input (Ok set) → IsReadAs input (Err stop) → ⊥
  not_accepted_and_refused stop p q = let both = one_set input (Ok set) (Err stop) p q in cc
