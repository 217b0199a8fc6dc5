use Rattle.std.proofs.Common.{◌≡◌, ℕ, ◌-◌, List, length, take, drop, length-drop, sym, ap, subst, ◌∙◌}
use Rattle.std.proofs.Math.Seq.{take-length}
use Rattle.std.proofs.lemmas.Result.{err_from_is_err_and}
use Rattle.s39_backup.specs.Resplit.{AreSplitByPlan}
use Rattle.s39_backup.proofs.resplitting.create_from_encrypted.Goals as goal

pub returns-in_err-params-clause-refused : goal.returns-in_err-params-clause-refused
returns-in_err-params-clause-refused c =
    let error = err_from_is_err_and c.from_residual.result c.from_residual.ensures.1 in rw (error.1, error.2) c.in_err-params.ensures.judged

pub returns-clause-created : goal.returns-clause-created
returns-clause-created c =
    let plan = c.args.plan.now in
    let params = c.in_ok-params.params in
    let new = c.in_ok-params.ensures.params in
    let levels = drop 2 c.args.random.now in
    let whole : take (length c.args.random.now - 2) levels ≡ levels =
    ap (λ (n : ℕ). take n levels) (sym (length-drop 2 c.args.random.now)) ∙ take-length levels in
    record {
      params = params;
      judged = c.in_ok-params.ensures.judged;
      new = new;
      split = subst (λ (xs : List ℕ). AreSplitByPlan params plan.group_threshold plan.groups.items c.args.encrypted.now.items xs c.split_encrypted.new.out)
          (whole ∙ ap (λ (xs : List ℕ). drop 2 xs) new.consumed) c.split_encrypted.ensures;
    }

pub returns-clause-of_backup : goal.returns-clause-of_backup
returns-clause-of_backup c = λ passphrase secret is.
    let plan = c.args.plan.now in
    c.encrypted_secrets_are_split_as_created.ensures.of_backup c.args.old plan.group_threshold plan.groups.items c.args.random.now
    c.args.encrypted.now.items c.split_encrypted.new.out passphrase secret plan.is_plan (returns-clause-created c) is
