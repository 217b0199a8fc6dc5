use Rattle.std.proofs.Common.{◌≡◌, [], length, refl, sym, subst, ap, arith, rules}
use Rattle.std.proofs.lemmas.Bool.{false≢true}
use Rattle.std.proofs.lemmas.List.{length-drop}
use Rattle.s39_words.proofs.Indices.{KeepsWords, keeps_none, first_unknown, keeps_word, kept_below, all_kept, no_word_count}
use Rattle.s39_words.proofs.spelling.indices_of.Goals as goal

pub loop-rest-init : goal.loop-rest-init
loop-rest-init c =
    let rest = c.after_separators-rest.ensures in
    record {
      begins = rest.begins;
      short = omega (arith, ap length rest.suffix.1, length-drop rest.suffix.0 c.args.line.now);
      keeps =
          subst (λ kept. KeepsWords c.args.line.now c.after_separators-rest.result.now kept 0) (sym c.new-indices.ensures)
          (keeps_none c.args.line.now c.after_separators-rest.result.now rest.same_words);
    }

pub returns-in_default-clause-refused : goal.returns-in_default-clause-refused
returns-in_default-clause-refused c =
    first_unknown c.args.line.now c.loop-rest.rest.now c.loop-rest.indices.items c.loop-rest.words c.loop-rest.invariant.keeps
    (c.in_default.ensures.unknown refl)

pub loop-rest-preserved : goal.loop-rest-preserved
loop-rest-preserved c =
    let next = c.after_separators-rest-in-loop-rest in
    let known = c.in-Some.ensures.known in
    record {
      begins = next.ensures.begins;
      short =
          omega (
            arith,
            c.loop-rest.invariant.short,
            ap length next.ensures.suffix.1,
            length-drop next.ensures.suffix.0 c.in-Some.word.rest.now,
            c.in-Some.ensures.short,
          );
      keeps =
          keeps_word c.args.line.now c.loop-rest.rest.now c.in-Some.word.rest.now next.result.now known.0 c.loop-rest.indices c.try_push.new.self
          c.loop-rest.words c.in-Some.word.index c.try_push.result
          c.loop-rest.invariant.keeps known.2 next.ensures.same_words known.1 c.try_push.ensures.ok c.try_push.ensures.err c.try_push.ensures.variant;
    }

pub returns-then-is_word_count : goal.returns-then-is_word_count
returns-then-is_word_count c =
    let ended : c.loop-rest.rest.now ≡ [] = search rules in
    let keeps = c.loop-rest.invariant.keeps in
    let all = all_kept c.args.line.now c.loop-rest.rest.now c.loop-rest.indices.items c.loop-rest.words keeps ended (c.if-is_word_count.ensures.0 refl) in
    record {
      found = all.0;
      count = all.1;
      in_list = kept_below c.args.line.now c.loop-rest.rest.now c.loop-rest.indices.items c.loop-rest.words keeps;
      refused = tt;
    }

pub returns-else-is_word_count-clause-refused : goal.returns-else-is_word_count-clause-refused
returns-else-is_word_count-clause-refused c =
    let ended : c.loop-rest.rest.now ≡ [] = search rules in
    no_word_count c.args.line.now c.loop-rest.rest.now c.loop-rest.indices.items c.loop-rest.words c.loop-rest.invariant.keeps ended (λ h.
    false≢true (c.if-is_word_count.ensures.1 h))
