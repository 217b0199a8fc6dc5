use Rattle.std.proofs.lemmas.List.Elements.{All-contains_itself}
use Rattle.s39_backup.specs.Resplit.{options_of}
use Rattle.s39_backup.proofs.Resplits.{made_is_created, made_count}
use Rattle.s39_backup.proofs.resplit_laws.encrypted_secrets_are_split_as_created.Goals as goal

pub returns-clause-created : goal.returns-clause-created
returns-clause-created c = λ old group_threshold groups random encrypted shares passphrase secret made is. (
  made_count old group_threshold groups random encrypted shares made passphrase secret is c.encryption_keeps_length_and_bytes.ensures,
  made_is_created old group_threshold groups random encrypted shares made passphrase secret is,
)

pub returns-clause-of_backup : goal.returns-clause-of_backup
returns-clause-of_backup c = λ old group_threshold groups random encrypted shares passphrase secret plan made is.
    record {
      group_threshold = group_threshold;
      groups = groups;
      options = options_of old;
      random = random;
      shares = shares;
      is_plan = plan;
      created = made_is_created old group_threshold groups random encrypted shares made passphrase secret is;
      belong = All-contains_itself shares;
    }

pub returns-clause-recovers : goal.returns-clause-recovers
returns-clause-recovers c = λ old group_threshold groups random encrypted shares passphrase secret new quorum plan made is is_set belong is_quorum.
    c.every_quorum_recovers.ensures new quorum passphrase secret is_set is_quorum (record {
      group_threshold = group_threshold;
      groups = groups;
      options = options_of old;
      random = random;
      shares = shares;
      is_plan = plan;
      created = made_is_created old group_threshold groups random encrypted shares made passphrase secret is;
      belong = belong;
    })
