use Rattle.std.proofs.Common.{◌≡◌, ◌+◌, suc, sym, subst, ◌∙◌, ⊎_elim, arith}
use Rattle.std.proofs.lemmas.Bool.{cases_lt, false≢true}
use Rattle.s39_repair.specs.Answer.{IsWrongWord}
use Rattle.s39_repair.proofs.SecondPosition.{none_wrong, only_wrong}
use Rattle.s39_repair.proofs.wrong_word.wrong_word.Goals as goal

pub loop-place-init : goal.loop-place-init
loop-place-init c = record {
  right = λ at is. let positive = is.positive in omega arith;
  plain = c.begin-plain.ensures.at;
  extendable = c.begin-extendable.ensures.at;
  flags = (c.begin-plain.ensures.flag, c.begin-extendable.ensures.flag);
}

pub returns-then-is_wrong_word : goal.returns-then-is_wrong_word
returns-then-is_wrong_word c =
    let words = c.args.words.now in
    let n = c.loop-place.place in
    let next : suc n ≡ n + 1 = omega arith in
    only_wrong words c.requires.in_list c.requires.short c.requires.bad (n + 1)
    (subst (IsWrongWord words) next (c.is_wrong_word.ensures.0 c.if-is_wrong_word.true))

pub loop-place-preserved : goal.loop-place-preserved
loop-place-preserved c =
    let words = c.args.words.now in
    let n = c.loop-place.place in
    record {
      right = λ at is.
          let later = c.loop-place.invariant.right at is in
          ⊎_elim
          (λ past. omega arith)
          (λ here.
          let at_is : at ≡ suc n = omega arith in
          absurd (false≢true (sym c.if-is_wrong_word.false ∙ c.is_wrong_word.ensures.1 (subst (IsWrongWord words) at_is is))))
          (cases_lt (suc n) at);
      plain = c.step-plain.ensures.at words n c.loop-place.invariant.plain;
      extendable = c.step-extendable.ensures.at words n c.loop-place.invariant.extendable;
      flags = (
        c.step-plain.ensures.flag ∙ c.loop-place.invariant.flags.0,
        c.step-extendable.ensures.flag ∙ c.loop-place.invariant.flags.1,
      );
    }

pub returns : goal.returns
returns c = none_wrong c.args.words.now (λ at is.
    let within = is.within in
    let later = c.loop-place.invariant.right at is in
    omega (arith, c.loop-place-test.false))
