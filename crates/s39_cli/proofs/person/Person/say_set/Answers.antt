use Rattle.std.proofs.Common.{◌≡◌, ◌≤◌, ◌++◌, ℕ, Bool, true, List, Option, nat_le, subst, sym}
use Rattle.std.proofs.lemmas.Bool.{le-leb}
use Rattle.s39_words.specs.declared.ShareFields.{ShareFields}
use Rattle.s39_set.specs.Counting.{quorum_count}
use Rattle.s39_reading.specs.Exponent.{exponent_of}
use Rattle.s39_cli.specs.declared.person.Person.{Person}
use Rattle.s39_cli.specs.Said.{Says, count_line, least_slow, line_if, seconds_line, set_lines}
use Rattle.s39_cli.proofs.Said.{says_both}
use Rattle.s39_cli.proofs.person.Person.say_set.Goals as goal

-- the lines of a set whose exponent is high
slowly : {E : Type 0} (contents : E → Option (List ℕ)) (set : List ShareFields) (exponent : ℕ) (old mid new : Person E)
    → exponent ≡ exponent_of set → least_slow ≤ exponent → Says contents old mid (count_line (quorum_count set))
    → Says contents mid new (seconds_line exponent) → Says contents old new (set_lines set)
slowly contents set exponent old mid new is slow first then =
    let high : nat_le least_slow exponent ≡ true = le-leb least_slow exponent slow in
    subst (λ (e : ℕ). Says contents old new (count_line (quorum_count set) ++ line_if (nat_le least_slow e) (seconds_line e))) is
    (subst (λ (b : Bool). Says contents old new (count_line (quorum_count set) ++ line_if b (seconds_line exponent))) (sym high)
    (says_both contents old mid new (count_line (quorum_count set)) (seconds_line exponent) first then))

pub returns-in-Some : goal.returns-in-Some
returns-in-Some g c =
    let slow = c.in-Some.ensures.slow in
    slowly g.E.Write.contents c.args.set.now c.in-Some.exponent c.args.self.now c.say_count.new.self c.say_seconds.new.self
    slow.0 slow.1 (c.say_count.ensures (quorum_count c.args.set.now) c.quorum_count_of.ensures) c.say_seconds.ensures
