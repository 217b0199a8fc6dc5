use Rattle.s39_backup.proofs.Causes.{creation_exists, creation_once}
use Rattle.s39_backup.proofs.laws.one_creation.Goals as goal

pub returns-clause-exists : goal.returns-clause-exists
returns-clause-exists c = λ asked random plan bytes random_bytes.
    creation_exists asked random c.passphrases_are_printable_or_not.ensures.some
    (λ is_length needed. c.every_backup_can_be_created.ensures asked random plan is_length bytes random_bytes needed)

pub returns-clause-once : goal.returns-clause-once
returns-clause-once c = λ asked random.
    creation_once asked random c.passphrases_are_printable_or_not.ensures.one
    c.passphrases_are_printable_or_not.ensures.none (c.one_created_backup.ensures asked random)
