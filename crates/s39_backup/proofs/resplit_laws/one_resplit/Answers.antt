use Rattle.std.proofs.Common.{[], None, Err, inl, inr, refl}
use Rattle.s39_backup.specs.declared.resplit_error.ResplitError.TheVariants.{Lack}
use Rattle.s39_backup.specs.Created.{asked_for}
use Rattle.s39_backup.proofs.Resplits.{resplit_exists, resplit_once}
use Rattle.s39_backup.proofs.resplit_laws.one_resplit.Goals as goal

pub returns-clause-exists : goal.returns-clause-exists
returns-clause-exists c = λ set group_threshold groups random is plan bytes.
    elim (c.quorum_or_lack.ensures set is) [
      | inl found ↦
          resplit_exists set group_threshold groups random is
          (λ names quorum. c.every_quorum_has_an_outcome.ensures set names [] is quorum)
          (λ names quorum. record { is_set = is; exact = (c.quorums_are_exact.ensures set names is).0 quorum })
          c.encryption_keeps_length_and_bytes.ensures c.one_encryption.ensures.of_secrets
          (λ names secret quorum recovers. c.outcomes_in_range.ensures.secret set names [] secret is quorum recovers)
          (λ secret options is_length secret_bytes count.
          c.every_backup_can_be_created.ensures (asked_for secret [] group_threshold groups options) random plan is_length secret_bytes bytes count)
          found.0 found.1
      | inr lack ↦ (Err (Lack lack.0), inl (lack.0, lack.1, refl))
    ]

pub returns-clause-once : goal.returns-clause-once
returns-clause-once c = λ set group_threshold groups random result other is.
    resplit_once set group_threshold groups random is
    (λ names quorum. c.every_quorum_has_an_outcome.ensures set names [] is quorum)
    (c.one_first_quorum.ensures set None)
    (λ asked. c.one_created_backup.ensures asked random)
    c.one_lack.ensures.one c.one_lack.ensures.none result other
