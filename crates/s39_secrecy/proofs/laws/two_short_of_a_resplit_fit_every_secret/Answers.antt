use Rattle.s39_backup.specs.Created.{asked_for}
use Rattle.s39_secrecy.proofs.laws.two_short_of_a_resplit_fit_every_secret.Goals as goal

pub returns : goal.returns
returns c set group_threshold groups random shares least names passphrase secret other is plan bytes split first recovers as_long other_bytes ascending short =
    let made = c.resplits_are_created_backups.ensures.created set group_threshold groups random shares least passphrase secret is split first recovers in (
      made.0,
      c.two_short_fit_every_secret.ensures (asked_for secret passphrase group_threshold groups made.0) other names random shares
          (record {
            can = record { is_plan = plan; is_length = made.2; bytes = made.3 };
            other_bytes = other_bytes;
            one_length = as_long;
            ascending = ascending;
            two_short = short;
          })
          (record { bytes = bytes; number = made.4 }) made.5,
    )
