use Rattle.std.proofs.Common.{Ok}
use Rattle.s39_backup.specs.Outcome.{Recovers}
use Rattle.s39_backup.proofs.OneRecovery.{only_outcome}
use Rattle.s39_backup.proofs.outcome.recover_quorum.Goals as goal

pub returns-in_err-encrypted-clause-created : goal.returns-in_err-encrypted-clause-created
returns-in_err-encrypted-clause-created c = λ secret backup.
    absurd (c.in_err-encrypted.ensures.created c.args.passphrase.now secret backup)

pub returns-clause-created : goal.returns-clause-created
returns-clause-created c = λ secret backup.
    let set = c.args.set.now in
    let names = c.args.quorum.now in
    let passphrase = c.args.passphrase.now in
    let recovers : Recovers set names passphrase c.decrypt.result.items = record {
      encrypted = c.in_ok-encrypted.encrypted.items;
      params = c.params_of.result;
      combined = c.in_ok-encrypted.ensures.combination;
      params_are = c.params_of.ensures;
      secret_is = c.decrypt.ensures.value;
    } in
    only_outcome set names passphrase
    (λ outcome other. c.one_outcome.ensures set names passphrase outcome other c.are_a_share_set.ensures c.requires)
    secret (c.every_quorum_recovers.ensures set names passphrase secret c.are_a_share_set.ensures c.requires backup)
    (Ok c.decrypt.result) recovers (tt {0})
