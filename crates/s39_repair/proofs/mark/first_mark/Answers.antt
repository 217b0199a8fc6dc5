use Rattle.std.proofs.Common.{◌≡◌, true, false, take, drop, sym, ◌∙◌, arith}
use Rattle.std.specs.Prelude.{All}
use Rattle.std.proofs.lemmas.List.Elements.{All-more}
use Rattle.s39_words.specs.Spelling.{is_separator}
use Rattle.s39_repair.proofs.TextMarks.{ends_at_separator, ends_at_end, first_words}
use Rattle.s39_repair.proofs.mark.first_mark.Goals as goal
use Rattle.s39_repair.proofs.mark.first_mark.Goals.{then-loop-end-test+else-not-is_separator, else-loop-end-test}

pub loop-end-preserved : goal.loop-end-preserved
loop-end-preserved c = record {
  within = omega (arith, c.loop-end-test.true);
  inside =
      All-more (λ b. is_separator b ≡ false) c.args.text.now c.loop-end.end 0 c.loop-end-test.true c.loop-end.invariant.inside
      (sym c.is_separator.ensures ∙ c.if-not-is_separator.true);
}

pub returns-clause-words : goal.returns-clause-words
returns-clause-words c =
    let text = c.args.text.now in
    let end = c.loop-end.end in
    let behind : All (λ b. is_separator b ≡ true) (take 1 (drop end text)) =
    elim c.loop-end-test.branch [
      | then-loop-end-test+else-not-is_separator w ↦
          ends_at_separator text end w.loop-end-test.true (sym w.is_separator.ensures ∙ w.if-not-is_separator.false)
      | else-loop-end-test w ↦ ends_at_end text end w.loop-end-test.false
    ] in
    first_words text end c.loop-end.invariant.inside behind c.requires.begins c.requires.some
