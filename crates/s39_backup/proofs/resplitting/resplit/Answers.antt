use Rattle.std.proofs.Common.{ap, inr, Ok, Err}
use Rattle.std.proofs.lemmas.Result.{err_from_is_err_and, on_ok_weaker, IfErr-weaker}
use Rattle.s39_backup.specs.Resplit.{judged_split}
use Rattle.s39_backup.proofs.Resplits.{set_gives}
use Rattle.s39_backup.proofs.resplitting.resplit.Goals as goal

pub returns-in_err-encrypted-clause-refused : goal.returns-in_err-encrypted-clause-refused
returns-in_err-encrypted-clause-refused c =
    let plan = c.args.plan.now in
    let error = err_from_is_err_and c.from_residual-in_err-encrypted.result c.from_residual-in_err-encrypted.ensures.1 in
    rw (error.1, error.2) (inr (record {
      names = c.in_ok-quorum.quorum;
      old = c.params_of-old.result;
      least = c.in_ok-quorum.ensures.first;
      old_are = c.params_of-old.ensures;
      judged = ap (judged_split c.params_of-old.result plan.group_threshold plan.groups.items c.args.random.now) c.in_err-encrypted.ensures.combination;
    }))

pub returns-clause-resplit : goal.returns-clause-resplit
returns-clause-resplit c =
    let plan = c.args.plan.now in
    on_ok_weaker c.create_from_encrypted.result
    (set_gives c.args.set.now plan.group_threshold plan.groups.items c.args.random.now c.in_ok-quorum.quorum c.params_of-old.result
    c.in_ok-encrypted.encrypted.items c.in_ok-quorum.ensures.first c.params_of-old.ensures c.in_ok-encrypted.ensures.combination
    (Ok c.create_from_encrypted.new.out))
    c.create_from_encrypted.ensures.created

pub returns-clause-refused : goal.returns-clause-refused
returns-clause-refused c =
    let plan = c.args.plan.now in
    IfErr-weaker c.create_from_encrypted.result _ _
    (λ error. set_gives c.args.set.now plan.group_threshold plan.groups.items c.args.random.now c.in_ok-quorum.quorum c.params_of-old.result
    c.in_ok-encrypted.encrypted.items c.in_ok-quorum.ensures.first c.params_of-old.ensures c.in_ok-encrypted.ensures.combination (Err error))
    c.create_from_encrypted.ensures.refused

pub returns-clause-created : goal.returns-clause-created
returns-clause-created c = λ names passphrase secret least recovers.
    let plan = c.args.plan.now in
    on_ok_weaker c.create_from_encrypted.result
    (λ split. c.resplits_are_created_backups.ensures.of_backup c.args.set.now plan.group_threshold plan.groups.items c.args.random.now
    c.create_from_encrypted.new.out names passphrase secret c.are_a_share_set.ensures plan.is_plan split least recovers)
    (returns-clause-resplit c)

pub returns-clause-of_created : goal.returns-clause-of_created
returns-clause-of_created c = λ passphrase secret backup.
    let plan = c.args.plan.now in
    on_ok_weaker c.create_from_encrypted.result
    (λ split. c.resplits_are_created_backups.ensures.of_created c.args.set.now plan.group_threshold plan.groups.items c.args.random.now
    c.create_from_encrypted.new.out passphrase secret c.are_a_share_set.ensures plan.is_plan split backup)
    (returns-clause-resplit c)
