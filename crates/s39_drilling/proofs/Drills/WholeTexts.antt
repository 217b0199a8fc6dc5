-- All lines that `create` writes have a quorum, so `drill` gives the secret of them.
use Rattle.std.proofs.Common.{◌≡◌, ℕ, List, map, ap}
use Rattle.std.proofs.Common.{Some, None, Result, Ok, Err}
use Rattle.s39_words.specs.declared.ShareFields.{ShareFields}
use Rattle.s39_set.specs.ShareSet.{name_of}
use Rattle.s39_set.specs.Quorums.{MeetsThresholds}
use Rattle.s39_set.proofs.SetQuorums.{no_lack-from_meets}
use Rattle.s39_kdf.specs.declared.secret_form.SecretForm.{SecretForm}
use Rattle.s39_drilling.specs.declared.drill.Done.{Done}
use Rattle.s39_drilling.specs.declared.drill.NoDrill.TheVariants.{Lack, NotAQuorum}
use Rattle.s39_input.specs.declared.fault.Fault.{Fault}
use Rattle.s39_drilling.specs.Drill.{unexpected_in, ListsSecret, ListsSecretOrCause}

-- of a set that meets its thresholds the secret is given
module _ (form : SecretForm) (set : List ShareFields) (meets : MeetsThresholds set (map name_of set)) (secret : List ℕ) where
  pub lists_whole : (limit : ℕ) (output : List ℕ) (answer : Result Done Fault) → ListsSecretOrCause form set secret None limit output answer
      → (lists : ListsSecret form set secret None limit output)
      × (answer ≡ Ok (record { mismatches = unexpected_in form secret lists.listed }))
  lists_whole limit output (Ok done) (no_lack, cursor, (lists, all)) = (lists, ap (λ (m : ℕ). Ok (record { mismatches = m })) all)
  lists_whole limit output (Err fault) (none, (Lack lack, lacks, is)) = absurd (no_lack-from_meets set (map name_of set) meets lack lacks)
  lists_whole limit output (Err fault) (none, (NotAQuorum, (no_lack, (names, given, other)), is)) = absurd (let bad : None ≡ Some names = given in cc)
