use Rattle.std.proofs.Common.{◌≡◌, ℕ, List, rules, subst}
use Rattle.s39_backup.specs.Created.{Asked}
use Rattle.s39_backup.specs.Asking.{asked_of}
use Rattle.s39_backup.specs.Correspondence.{Correspond}
use Rattle.s39_backup.specs.TwoShort.{IsTwoShort}
use Rattle.s39_backup.proofs.KeptShares.{both_kept}
use Rattle.s39_backup.proofs.refitting.refit.Goals as goal

pub returns-clause-corresponds : goal.returns-clause-corresponds
returns-clause-corresponds c two_short =
    let asked : List ℕ → Asked = λ s. asked_of c.args.plan.now s c.args.passphrase.now c.args.options in
    let random = c.args.random.now in
    let new = c.refit_backup.new.random in
    let names = c.pairs-2.result.now in
    let secret_is : c.unwrap-secret.result.items ≡ c.args.secret.now = (rw c.unwrap-secret.ensures at c.try_from.ensures).0 in
    let other_is : c.unwrap-other.result.items ≡ c.args.other.now = (rw c.unwrap-other.ensures at c.try_from-2.ensures).0 in
    subst (λ ns. Correspond ns (asked c.args.secret.now) c.args.other.now random new) c.pairs-2.ensures.same
    (subst (λ o. Correspond names (asked c.args.secret.now) o random new) other_is
    (subst (λ s. Correspond names (asked s) c.unwrap-other.result.items random new) secret_is c.refit_backup.ensures))

pub returns-clause-kept : goal.returns-clause-kept
returns-clause-kept c two_short shares others created also =
    let asked = asked_of c.args.plan.now c.args.secret.now c.args.passphrase.now c.args.options in
    let of : IsTwoShort c.args.plan.now.group_threshold c.args.plan.now.groups.items c.args.keep.now = search rules in
    both_kept c.args.keep.now asked c.args.other.now c.args.random.now c.refit_backup.new.random of.of_plan (returns-clause-corresponds c two_short)
    shares others created also
