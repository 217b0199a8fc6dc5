use Rattle.std.proofs.Common.{◌≡◌, ◌≤◌, [], length, refl, sym, subst, ap, arith, rules}
use Rattle.std.proofs.lemmas.Bool.{false≢true}
use Rattle.std.proofs.lemmas.List.{length-drop}
use Rattle.std.specs.Str.{str_to_ascii_lowercase}
use Rattle.s39_words.specs.declared.prefix.WordRange.{WordRange}
use Rattle.s39_repair.specs.Marks.{IsRange}
use Rattle.s39_repair.proofs.MarksRead.{KeepsMarks, keeps_none, keeps_mark, unknown_at, are_marks, no_count}
use Rattle.s39_repair.proofs.marks.marks_of.Goals as goal

pub loop-rest-init : goal.loop-rest-init
loop-rest-init c =
    let rest = c.after_separators-rest in
    record {
      begins = rest.ensures.begins;
      short = omega (arith, ap length rest.ensures.suffix.1, length-drop rest.ensures.suffix.0 c.args.line.now);
      keeps = subst (λ (kept : _). KeepsMarks c.args.line.now rest.result.now kept 0) (sym c.new-marks.ensures)
          (keeps_none c.args.line.now rest.result.now rest.ensures.same_words);
    }

is_range : (range : WordRange) → range.first ≤ range.end → (range.first ≡ range.end → ⊥) → range.end ≤ 1024 → IsRange range
is_range range low other high = record { some = grind (arith, other); in_list = high }

pub loop-rest-preserved : goal.loop-rest-preserved
loop-rest-preserved c =
    let next = c.after_separators-rest-in-loop-rest in
    let first = c.first_mark-first in
    let range = c.choice_of-range in
    record {
      begins = next.ensures.begins;
      short =
          omega (
            arith,
            c.loop-rest.invariant.short,
            ap length next.ensures.suffix.1,
            length-drop next.ensures.suffix.0 first.result.rest.now,
            first.ensures.short,
          );
      keeps =
          keeps_mark c.args.line.now c.loop-rest.rest.now first.result.rest.now next.result.now (str_to_ascii_lowercase first.result.mark.now)
          c.loop-rest.marks c.try_push.new.self c.loop-rest.words range.result c.try_push.result
          c.loop-rest.invariant.keeps first.ensures.words next.ensures.same_words range.ensures.words
          (is_range range.result range.ensures.ordered c.if-range.false range.ensures.in_list)
          c.try_push.ensures.ok c.try_push.ensures.err c.try_push.ensures.variant;
    }

pub returns-then-range-clause-refused : goal.returns-then-range-clause-refused
returns-then-range-clause-refused c =
    let first = c.first_mark-first in
    let range = c.choice_of-range in (
      c.loop-rest.words,
      unknown_at c.args.line.now c.loop-rest.rest.now first.result.rest.now (str_to_ascii_lowercase first.result.mark.now) c.loop-rest.marks.items
          c.loop-rest.words range.result c.loop-rest.invariant.keeps first.ensures.words range.ensures.words c.if-range.true,
      omega arith,
    )

pub returns-then-is_word_count-clause-found : goal.returns-then-is_word_count-clause-found
returns-then-is_word_count-clause-found c =
    let none : c.loop-rest.rest.now ≡ [] = search rules in
    let all = subst (λ rest. KeepsMarks c.args.line.now rest c.loop-rest.marks.items c.loop-rest.words) none c.loop-rest.invariant.keeps in
    are_marks c.args.line.now c.loop-rest.marks.items c.loop-rest.words all (c.if-is_word_count.ensures.0 refl)

pub returns-else-is_word_count-clause-refused : goal.returns-else-is_word_count-clause-refused
returns-else-is_word_count-clause-refused c =
    let none : c.loop-rest.rest.now ≡ [] = search rules in
    let all = subst (λ rest. KeepsMarks c.args.line.now rest c.loop-rest.marks.items c.loop-rest.words) none c.loop-rest.invariant.keeps in
    no_count c.args.line.now c.loop-rest.marks.items c.loop-rest.words all (λ h. false≢true (c.if-is_word_count.ensures.1 h))
