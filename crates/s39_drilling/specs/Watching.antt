-- What is told how far a drill is.
use Rattle.std.specs.Prelude.{◌≡◌, ◌≤◌, ℕ, zero, suc, All, List, Option, length, map, take, Result, Ok, Err}
use Rattle.std.specs.List.{flat_map}
use Rattle.s39_words.specs.declared.ShareFields.{ShareFields}
use Rattle.s39_set.specs.Listing.{IsListing}
use Rattle.s39_set.specs.Names.{Names}
use Rattle.s39_backup.specs.Outcome.{IsOutcome}
use Rattle.s39_input.specs.Accepted.{read_as}
use Rattle.s39_input.specs.Device.{Counted}
use Rattle.s39_input.specs.Input.{Input}
use Rattle.s39_input.specs.Output.{WritesPart, WritesWhole}
use Rattle.s39_kdf.specs.declared.secret_form.SecretForm.{SecretForm}
use Rattle.s39_drilling.specs.Drill.{Listed, quorum_line}

-- the lines of these quorums are written, and of what follows a beginning, whose write then failed
pub record WritesFirst {W : Type 0} (contents : W → Option (List ℕ)) (old new : Counted W) (form : SecretForm) (set : List ShareFields)
    (passphrase : List ℕ) (listed : List Names) : Type 0 where
  pub lines : List Listed
  pub quorums : map (λ line. line.0) lines ≡ listed
  pub outcomes : All (λ line. IsOutcome set line.0 passphrase line.1) lines
  pub mid : Counted W
  pub written : WritesWhole contents old (flat_map (quorum_line form) lines) mid
  pub rest : List ℕ
  pub failed : WritesPart contents mid rest new

module _ {P : Type 0} (counts : ℕ → P → P → Type 0) where
  -- it is told of 1, 2, .. up to this number in turn, and of nothing else
  abbrev pub AreSeen : ℕ → P → P → Type 0
  AreSeen zero old new = new ≡ old
  AreSeen (suc n) old new = (mid : P) × AreSeen n old mid × counts (suc n) mid new

  -- It is told of each quorum of this listing. If a write failed, it is told of some of the first, whose lines are written.
  abbrev pub SeesListing : {T E : Type 0} → (List Names → Type 0) → List Names → Result T E → P → P → Type 0
  SeesListing AreWritten listed (Ok done) old new = AreSeen (length listed) old new
  SeesListing AreWritten listed (Err failed) old new = (n : ℕ) × (n ≤ length listed) × AreSeen n old new × AreWritten (take n listed)

  module _ (finds : List ShareFields → P → P → Type 0) where
    -- it is told of the set of the input, and then of each quorum that comes after a given one, or of all, up to a limit
    pub record SeesAll (after : Option Names) (limit : ℕ) (old new : P) (input : Input) : Type 0 where
      pub set : List ShareFields
      pub listed : List Names
      pub mid : P
      pub read : read_as input ≡ Ok set
      pub found : finds set old mid
      pub listing : IsListing set after limit listed
      pub seen : AreSeen (length listed) mid new

    -- it is told of the set of the input, and then of some of the first of these quorums, for which this holds
    pub record SeesFirst (Are : List ShareFields → List Names → Type 0) (after : Option Names) (limit : ℕ) (old new : P) (input : Input) : Type 0 where
      pub set : List ShareFields
      pub listed : List Names
      pub mid : P
      pub count : ℕ
      pub read : read_as input ≡ Ok set
      pub found : finds set old mid
      pub listing : IsListing set after limit listed
      pub few : count ≤ length listed
      pub seen : AreSeen count mid new
      pub first : Are set (take count listed)
