use Rattle.std.proofs.Common.{rules, ◌≡◌, true, false, get_or, refl}
use Rattle.std.proofs.lemmas.Bool.{false≢true}
use Rattle.s39_words.specs.Spelling.{is_separator}
use Rattle.s39_words.proofs.Rows.{holds-none, holds-row, holds-more, row_at_separator, row_at_end, long_unfit, other_unfit}
use Rattle.s39_words.proofs.word_reader.first_row.Goals as goal

pub loop-i-init : goal.loop-i-init
loop-i-init c = holds-none c.args.text.now

pub returns-then-is_separator-clause-row : goal.returns-then-is_separator-clause-row
returns-then-is_separator-clause-row c =
    let here : is_separator (get_or c.args.text.now c.loop-i.i 0) ≡ true = search rules in
    row_at_separator c.args.text.now c.loop-i.number c.loop-i.i c.loop-i.invariant c.loop-i-test.true here

pub returns-then-i-eq-MAX_LETTERS-clause-unfit : goal.returns-then-i-eq-MAX_LETTERS-clause-unfit
returns-then-i-eq-MAX_LETTERS-clause-unfit c = λ none word rest begins.
    let inside : is_separator (get_or c.args.text.now c.loop-i.i 0) ≡ false = search rules in
    long_unfit c.args.text.now word rest c.loop-i.number c.loop-i.i c.loop-i.invariant c.loop-i-test.true inside begins c.if-i-eq-MAX_LETTERS.true

pub returns-in_err-small_letter-clause-unfit : goal.returns-in_err-small_letter-clause-unfit
returns-in_err-small_letter-clause-unfit c = λ none word rest begins.
    let inside : is_separator (get_or c.args.text.now c.loop-i.i 0) ≡ false = search rules in
    other_unfit c.args.text.now word rest c.loop-i.number c.loop-i.i c.loop-i.invariant c.loop-i-test.true inside begins
    (λ letter. false≢true (c.in_err-small_letter.ensures.letter.1 letter))

pub with_letter-number-requires-clause-row : goal.with_letter-number-requires-clause-row
with_letter-number-requires-clause-row c =
    holds-row c.args.text.now c.loop-i.number c.loop-i.i c.loop-i.invariant c.loop-i-test.true c.if-i-eq-MAX_LETTERS.false

pub loop-i-preserved : goal.loop-i-preserved
loop-i-preserved c =
    holds-more c.args.text.now c.loop-i.number c.with_letter-number.result c.loop-i.i c.in_ok-small_letter.field-0 c.loop-i.invariant c.loop-i-test.true
    c.if-i-eq-MAX_LETTERS.false
    (c.in_ok-small_letter.ensures.letter.0 refl) c.in_ok-small_letter.ensures.small c.with_letter-number.ensures

pub returns-clause-row : goal.returns-clause-row
returns-clause-row c = row_at_end c.args.text.now c.loop-i.number c.loop-i.i c.loop-i.invariant c.loop-i-test.false
