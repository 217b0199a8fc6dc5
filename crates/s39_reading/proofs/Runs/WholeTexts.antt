-- All lines that `create` writes have a quorum, so `recover` gives the secret of them.
use Rattle.std.proofs.Common.{◌≡◌, ℕ, List, map, subst, sym, ◌∙◌, true, false, inl, inr, Option}
use Rattle.s39_kdf.specs.declared.noted.NotedFingerprint.{NotedFingerprint}
use Rattle.std.proofs.Common.{Result, Ok, Err}
use Rattle.s39_words.specs.declared.ShareFields.{ShareFields}
use Rattle.s39_set.specs.ShareSet.{name_of}
use Rattle.s39_set.specs.Quorums.{MeetsThresholds}
use Rattle.s39_set.proofs.SetQuorums.{no_lack-from_meets}
use Rattle.s39_kdf.specs.declared.secret_form.SecretForm.{SecretForm}
use Rattle.s39_input.specs.declared.fault.Fault.{Fault}
use Rattle.s39_input.specs.Input.{Input}
use Rattle.s39_reading.specs.Recover.{secret_line, IsRecoverOutput}
use Rattle.s39_reading.specs.Recover.{is_other_than, IsUnwritten, IsSecretOrCause}

-- of a set that meets its thresholds the secret is given, unless another is expected
module _ (form : SecretForm) (expected : Option NotedFingerprint) (set : List ShareFields) (meets : MeetsThresholds set (map name_of set)) (secret : List ℕ)
    (told : is_other_than expected secret ≡ false) where
  no_cause : (fault : Fault) → IsUnwritten expected set secret fault → ⊥
  no_cause fault (inl (lack, lacks, is)) = no_lack-from_meets set (map name_of set) meets lack lacks
  no_cause fault (inr (some, told', is)) = absurd (let bad : true ≡ false = sym told' ∙ told in cc)

  pub recovers_whole : (passphrase : List ℕ) (input : Input) (output : List ℕ) (answer : Result (Unit {0}) Fault)
      → IsRecoverOutput form expected passphrase input output answer → IsSecretOrCause form expected set secret output answer
      → IsRecoverOutput form expected passphrase input (secret_line form secret) (Ok tt)
  recovers_whole passphrase input output (Ok _) recovers (some, told, is) =
      subst (λ t. IsRecoverOutput form expected passphrase input t (Ok tt)) is recovers
  recovers_whole passphrase input output (Err fault) recovers (none, cause) = absurd (no_cause fault cause)
