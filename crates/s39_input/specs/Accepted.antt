-- The set of the shares that an input holds, or why it is refused; and how a passphrase and an encrypted secret are judged.
use Rattle.std.specs.Prelude.{◌≡◌, ℕ, List, [], ◌∷◌, length, map, filter_map, All, Contains, Option, Some, None, Result, Ok, Err}
use Rattle.std.specs.declared.cmp.Ordering.{Ordering}
use Rattle.std.specs.declared.cmp.Ordering.TheVariants.{Less, Equal, Greater}
use Rattle.s39_lists.specs.Each.{and_then}
use Rattle.s39_kdf.specs.declared.limits.BadPassphrase.{BadPassphrase}
use Rattle.s39_kdf.specs.declared.limits.BadSecretLength.{BadSecretLength}
use Rattle.s39_kdf.specs.Limits.{IsPrintable, IsFirstUnprintable, IsSecretLength}
use Rattle.s39_words.specs.declared.ShareFields.{ShareFields}
use Rattle.s39_set.specs.Names.{IsAscending, name_cmp}
use Rattle.s39_set.specs.ShareSet.{IsShareSet, name_of, refusal_of}
use Rattle.s39_set.specs.declared.set_error.SetError.{SetError}
use Rattle.s39_input.specs.declared.fault.LineRefusal.{LineRefusal}
use Rattle.s39_input.specs.declared.fault.LineRefusal.TheVariants.{Set}
use Rattle.s39_input.specs.declared.fault.Stop.{Stop}
use Rattle.s39_input.specs.declared.fault.Refusal.TheVariants.{Passphrase}
use Rattle.s39_input.specs.declared.fault.Fault.{Fault}
use Rattle.s39_input.specs.Fault.{fault_of, fault_of_stop}
use Rattle.s39_input.specs.Input.{Input, lines_of}
use Rattle.s39_input.specs.Lines.{share_in, led}
use Rattle.s39_input.specs.Steps.{Then}

-- the set has exactly these shares, each once, in the order of their names
pub record IsSetOf (shares set : List ShareFields) : Type 0 where
  pub ascending : IsAscending (map name_of set)
  pub all : All (Contains set) shares
  pub only : All (Contains shares) set

-- A set that begins with `first`, once `share` is in it too: it stands behind or before `first`. If both have one name,
-- `first` stays, and `share` is left out.
abbrev pub placed : Ordering → ShareFields → ShareFields → List ShareFields → List ShareFields → List ShareFields
placed Less share first others more = first ∷ more
placed Equal share first others more = first ∷ others
placed Greater share first others more = share ∷ first ∷ others

-- the set with this share, in the order of the names; if a share of the set has its name, nothing changes
abbrev pub with_share : ShareFields → List ShareFields → List ShareFields
with_share share [] = share ∷ []
with_share share (first ∷ others) = placed (name_cmp (name_of first) (name_of share)) share first others (with_share share others)

-- the set with this share, unless this error refuses it
abbrev pub joined : List ShareFields → ShareFields → Option SetError → Result (List ShareFields) LineRefusal
joined set share None = Ok (with_share share set)
joined set share (Some error) = Err (Set error)

-- the set with what a line holds, or why the share can't join it
abbrev pub with_held : List ShareFields → Option ShareFields → Result (List ShareFields) LineRefusal
with_held set None = Ok set
with_held set (Some share) = joined set share (refusal_of set share)

-- the set with what this line holds; or why the line is refused: by itself, or as its share can't join the set
abbrev pub with_line : List ShareFields → List ℕ → Result (List ShareFields) LineRefusal
with_line set line = and_then (with_held set) (share_in line)

-- the set of the shares of an input's lines, or the first line that is refused, or that a read failed
unfoldable pub read_as : Input → Result (List ShareFields) (Stop LineRefusal)
read_as input = led with_line input.ended 0 [] (lines_of input)

-- the input is read as this: as a set, or it's refused
abbrev pub IsReadAs : Input → Result (List ShareFields) (Stop LineRefusal) → Type 0
IsReadAs input read = read_as input ≡ read

-- the share that a line holds, if it does
abbrev pub held_share : Result (Option ShareFields) LineRefusal → Option ShareFields
held_share (Ok held) = held
held_share (Err refusal) = None

-- the shares that lines hold, in the order of the lines
abbrev pub shares_in : List (List ℕ) → List ShareFields
shares_in lines = filter_map (λ line. held_share (share_in line)) lines

-- the passphrase is printable, or refused for its first byte that isn't printable
abbrev pub IsJudged : List ℕ → Result (Unit {0}) BadPassphrase → Type 0
IsJudged passphrase (Ok _) = All IsPrintable passphrase
IsJudged passphrase (Err bad) = IsFirstUnprintable passphrase bad.position

-- the bytes are as many as those of a secret, or refused for their number
abbrev pub IsMeasured : List ℕ → Result (Unit {0}) BadSecretLength → Type 0
IsMeasured bytes (Ok _) = IsSecretLength (length bytes)
IsMeasured bytes (Err bad) = (¬ IsSecretLength (length bytes)) × (bad.bytes ≡ length bytes)

-- The passphrase is judged first, and then the lines of the input: the set of their shares, or the fault.
abbrev pub IsCheckedSet : List ℕ → Input → Result (List ShareFields) Fault → Type 0
IsCheckedSet passphrase input =
    Then (IsJudged passphrase) (λ bad. Err (fault_of (Passphrase bad))) (λ _.
    Then (IsReadAs input) (λ stop. Err (fault_of_stop stop)) (λ set result. result ≡ Ok set))

-- what is known of checked sets: there is one, which is a share set, or one fault
pub record CheckedSetLaws : Type 0 where
  pub once : (passphrase : List ℕ) (input : Input) (result other : Result (List ShareFields) Fault)
      → IsCheckedSet passphrase input result → IsCheckedSet passphrase input other → result ≡ other
  pub exists : (passphrase : List ℕ) (input : Input) → (result : Result (List ShareFields) Fault) × IsCheckedSet passphrase input result
  pub is_set : (passphrase : List ℕ) (input : Input) (set : List ShareFields) → IsCheckedSet passphrase input (Ok set) → IsShareSet set
