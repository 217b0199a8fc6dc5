use Rattle.std.proofs.Common.{refl, rules}
use Rattle.std.proofs.lemmas.List.{take_all}
use Rattle.std.proofs.lemmas.List.Elements.{All-more}
use Rattle.s39_kdf.specs.Limits.{IsPrintable}
use Rattle.s39_kdf.proofs.limits.check_passphrase.Goals as goal

pub loop-i-preserved : goal.loop-i-preserved
loop-i-preserved c =
    All-more IsPrintable c.args.passphrase.now c.loop-i.i 0 c.loop-i-test.true c.loop-i.invariant (search rules)

pub returns-clause-accepted : goal.returns-clause-accepted
returns-clause-accepted c =
    let all = take_all c.loop-i.i c.args.passphrase.now c.loop-i-test.false in
    (λ _. rw all at c.loop-i.invariant, λ _. refl)
