use Rattle.std.proofs.Common.{ℕ, List, Ok, Err, refl, subst}
use Rattle.std.proofs.lemmas.Result.{err_from_is_err_and}
use Rattle.s39_backup.specs.Resplit.{IsCreationFromEncrypted}
use Rattle.s39_input.specs.Steps.{gives, refuses}
use Rattle.s39_creating.proofs.resplitting.from_encrypted.Goals as goal

pub returns-in_err-bytes : goal.returns-in_err-bytes
returns-in_err-bytes c =
    let p = err_from_is_err_and c.from_residual.result c.from_residual.ensures.1 in
    rw (p.1, p.2) (refuses c.in_err-bytes.field-0.0
    (λ is. let bad = c.in_err-bytes.ensures.accepted.1 is in absurd (cc), c.in_err-bytes.ensures.length) refl)

pub returns-in_err-create_from_encrypted : goal.returns-in_err-create_from_encrypted
returns-in_err-create_from_encrypted c =
    let plan = c.args.plan.now in
    let p = err_from_is_err_and c.from_residual-in_err-create_from_encrypted.result c.from_residual-in_err-create_from_encrypted.ensures.1 in
    let error = c.in_err-create_from_encrypted.field-0.0 in
    rw (p.1, p.2) (gives tt (c.in_ok-bytes.ensures.accepted.0 refl) (refuses error
    (subst (λ (e : List ℕ). IsCreationFromEncrypted c.args.params plan.group_threshold plan.groups.items c.args.random.now e (Err error))
    c.in_ok-bytes.ensures.unchanged c.in_err-create_from_encrypted.ensures.refused) refl))

pub returns : goal.returns
returns c =
    let plan = c.args.plan.now in
    let shares = c.create_from_encrypted.new.out in
    gives tt (c.in_ok-bytes.ensures.accepted.0 refl) (gives shares
    (subst (λ (e : List ℕ). IsCreationFromEncrypted c.args.params plan.group_threshold plan.groups.items c.args.random.now e (Ok shares))
    c.in_ok-bytes.ensures.unchanged c.in_ok-create_from_encrypted.ensures.created) refl)
