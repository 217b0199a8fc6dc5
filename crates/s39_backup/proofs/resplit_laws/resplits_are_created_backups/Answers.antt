use Rattle.std.proofs.Common.{None}
use Rattle.std.proofs.lemmas.List.Elements.{All-contains_itself}
use Rattle.s39_backup.specs.Resplit.{options_of}
use Rattle.s39_backup.proofs.Resplits.{have_options, is_created, secret_bytes, count_is, least_recovers, least_secret}
use Rattle.s39_backup.proofs.resplit_laws.resplits_are_created_backups.Goals as goal

pub returns-clause-recovered : goal.returns-clause-recovered
returns-clause-recovered c = λ set group_threshold groups random shares names passphrase is split least.
    least_secret set group_threshold groups random shares names passphrase (c.one_first_quorum.ensures set None)
    (c.every_quorum_has_an_outcome.ensures set names passphrase is least.quorum) split least

pub returns-clause-created : goal.returns-clause-created
returns-clause-created c = λ set group_threshold groups random shares names passphrase secret is split least recovers.
    let here = least_recovers set group_threshold groups random shares names passphrase secret
    (c.one_first_quorum.ensures set None) split least recovers in (
      options_of split.old,
      have_options set split.old is split.old_are,
      c.outcomes_in_range.ensures.secret set names passphrase secret is least.quorum recovers,
      secret_bytes set group_threshold groups random shares split passphrase secret here c.encryption_keeps_length_and_bytes.ensures
          (record { is_set = is; exact = (c.quorums_are_exact.ensures set split.names is).0 split.least.quorum }),
      count_is set group_threshold groups random shares split passphrase secret here c.encryption_keeps_length_and_bytes.ensures,
      is_created set group_threshold groups random shares split passphrase secret here,
    )

pub returns-clause-creation : goal.returns-clause-creation
returns-clause-creation c = λ set group_threshold groups random shares names passphrase secret is split least recovers printable.
    let here = least_recovers set group_threshold groups random shares names passphrase secret
    (c.one_first_quorum.ensures set None) split least recovers in (
      options_of split.old,
      have_options set split.old is split.old_are,
      (
        printable,
        c.outcomes_in_range.ensures.secret set names passphrase secret is least.quorum recovers,
        count_is set group_threshold groups random shares split passphrase secret here c.encryption_keeps_length_and_bytes.ensures,
        is_created set group_threshold groups random shares split passphrase secret here,
      ),
    )

pub returns-clause-of_backup : goal.returns-clause-of_backup
returns-clause-of_backup c = λ set group_threshold groups random shares names passphrase secret is plan split least recovers.
    let here = least_recovers set group_threshold groups random shares names passphrase secret
    (c.one_first_quorum.ensures set None) split least recovers in
    record {
      group_threshold = group_threshold;
      groups = groups;
      options = options_of split.old;
      random = random;
      shares = shares;
      is_plan = plan;
      created = is_created set group_threshold groups random shares split passphrase secret here;
      belong = All-contains_itself shares;
    }

pub returns-clause-recovers : goal.returns-clause-recovers
returns-clause-recovers c = λ set group_threshold groups random shares names passphrase secret new quorum is plan split least recovers is_set belong is_quorum.
    let here = least_recovers set group_threshold groups random shares names passphrase secret
    (c.one_first_quorum.ensures set None) split least recovers in
    c.every_quorum_recovers.ensures new quorum passphrase secret is_set is_quorum (record {
      group_threshold = group_threshold;
      groups = groups;
      options = options_of split.old;
      random = random;
      shares = shares;
      is_plan = plan;
      created = is_created set group_threshold groups random shares split passphrase secret here;
      belong = belong;
    })

pub returns-clause-of_created : goal.returns-clause-of_created
returns-clause-of_created c = λ set group_threshold groups random shares passphrase secret is plan split backup.
    record {
      group_threshold = group_threshold;
      groups = groups;
      options = options_of split.old;
      random = random;
      shares = shares;
      is_plan = plan;
      created = is_created set group_threshold groups random shares split passphrase secret
          (c.every_quorum_recovers.ensures set split.names passphrase secret is split.least.quorum backup);
      belong = All-contains_itself shares;
    }
