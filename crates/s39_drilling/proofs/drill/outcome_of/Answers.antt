use Rattle.std.proofs.Common.{ap, inl, inr, map}
use Rattle.s39_backup.specs.Memo.{MemoState}
use Rattle.std.proofs.lemmas.Bool.{cases_eq}
use Rattle.s39_lists.proofs.Decided.{same_or_other, among_or_not}
use Rattle.s39_drilling.proofs.drill.outcome_of.Goals as goal

pub returns-clause-passphrase : goal.returns-clause-passphrase
returns-clause-passphrase c =
    elim (among_or_not (same_or_other cases_eq) (map (λ entry. entry.0) c.args.memo.now.kept) c.in_ok-encrypted.encrypted.items) [
      | inl among ↦ ap (λ (m : MemoState). m.passphrase) (c.secret.ensures.remembered among)
      | inr other ↦ ap (λ (m : MemoState). m.passphrase) (c.secret.ensures.deciphered other)
    ]

pub returns-clause-params : goal.returns-clause-params
returns-clause-params c =
    elim (among_or_not (same_or_other cases_eq) (map (λ entry. entry.0) c.args.memo.now.kept) c.in_ok-encrypted.encrypted.items) [
      | inl among ↦ ap (λ (m : MemoState). m.params) (c.secret.ensures.remembered among)
      | inr other ↦ ap (λ (m : MemoState). m.params) (c.secret.ensures.deciphered other)
    ]
