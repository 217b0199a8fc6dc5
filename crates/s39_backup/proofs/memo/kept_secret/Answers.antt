use Rattle.std.proofs.Common.{◌≡◌, ◌≢◌, All, sym, ap, subst, ◌∙◌, arith}
use Rattle.std.specs.Prelude.{bytes_eq}
use Rattle.std.proofs.lemmas.Bool.Decides.{not_from_Decides}
use Rattle.std.proofs.lemmas.Slice.Eq.{bytes_eq-Decides}
use Rattle.std.proofs.lemmas.List.{take_all}
use Rattle.std.proofs.lemmas.List.Elements.{All-more}
use Rattle.s39_backup.proofs.Memos.{found_entry}
use Rattle.s39_backup.proofs.memo.kept_secret.Goals as goal

pub returns-then-eq-clause-found : goal.returns-then-eq-clause-found
returns-then-eq-clause-found c =
    let here = c.as_slice.result.now in
    let wanted = c.as_slice-in-loop-entry.result.now in
    let same : here ≡ wanted = (bytes_eq-Decides here wanted).0 (sym c.eq.ensures ∙ c.if-eq.true) in
    found_entry c.args.kept.now c.loop-entry.entry-index c.entry-item.result c.args.encrypted.now.items c.copied.result.items c.loop-entry-test.true
    (ap (λ e. e.encrypted.items) (sym c.entry-item.is) ∙ sym c.as_slice.ensures.value ∙ same ∙ c.as_slice-in-loop-entry.ensures.value)
    (ap (λ e. e.secret.items) (sym c.entry-item.is) ∙ sym c.copied.ensures)

pub loop-entry-preserved : goal.loop-entry-preserved
loop-entry-preserved c =
    let here = c.as_slice.result.now in
    let wanted = c.as_slice-in-loop-entry.result.now in
    let differs : here ≢ wanted = not_from_Decides (bytes_eq here wanted) (bytes_eq-Decides here wanted) (sym c.eq.ensures ∙ c.if-eq.false) in
    All-more (λ e. e.encrypted.items ≢ c.args.encrypted.now.items) c.args.kept.now c.loop-entry.entry-index c.entry-item.result c.loop-entry-test.true
    c.loop-entry.invariant
    (λ same. differs (c.as_slice.ensures.value ∙ ap (λ e. e.encrypted.items) c.entry-item.is ∙ same ∙ sym c.as_slice-in-loop-entry.ensures.value))

pub returns-clause-missing : goal.returns-clause-missing
returns-clause-missing c = λ none.
    subst (All (λ e. e.encrypted.items ≢ c.args.encrypted.now.items)) (take_all c.loop-entry.entry-index c.args.kept.now (omega arith)) c.loop-entry.invariant
