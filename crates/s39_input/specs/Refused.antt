-- What it means that an input is refused, or that a read failed.
use Rattle.std.specs.Prelude.{◌≡◌, ◌⊎◌, ℕ, List, ◌∷◌, ◌++◌, length, All, Some, Err}
use Rattle.s39_words.specs.declared.ShareFields.{ShareFields}
use Rattle.s39_set.specs.ShareSet.{IsShareSet, refusal_of}
use Rattle.s39_set.specs.declared.set_error.SetError.{SetError}
use Rattle.s39_input.specs.declared.fault.LineRefusal.{LineRefusal}
use Rattle.s39_input.specs.declared.fault.LineRefusal.TheVariants.{Set}
use Rattle.s39_input.specs.declared.fault.RefusedLine.{RefusedLine}
use Rattle.s39_input.specs.Fault.{line_number}
use Rattle.s39_input.specs.Lines.{Holds, IsReadable, share_in}
use Rattle.s39_input.specs.Accepted.{IsSetOf, shares_in}

-- none of these lines is refused by itself, and the shares that they hold are those of this set
pub record AreAccepted (lines : List (List ℕ)) (set : List ShareFields) : Type 0 where
  pub readable : All IsReadable lines
  pub is_share_set : IsShareSet set
  pub is_set : IsSetOf (shares_in lines) set

-- a line is refused by itself, or because its share can't join this set
abbrev pub IsRefusedAmong : List ShareFields → List ℕ → LineRefusal → Type 0
IsRefusedAmong set line refusal =
    (share_in line ≡ Err refusal)
    ⊎ ((share : ShareFields) × (error : SetError) × Holds line (Some share) × (refusal_of set share ≡ Some error) × (refusal ≡ Set error))

-- one of these lines is refused among those before it, which are accepted; this is its number and why
pub record IsFirstRefused (lines : List (List ℕ)) (refused : RefusedLine LineRefusal) : Type 0 where
  pub before : List (List ℕ)
  pub line : List ℕ
  pub after : List (List ℕ)
  pub set : List ShareFields
  pub parts : lines ≡ before ++ line ∷ after
  pub accepted : AreAccepted before set
  pub refuses : IsRefusedAmong set line refused.refusal
  pub number_is : refused.number ≡ line_number (length before)
