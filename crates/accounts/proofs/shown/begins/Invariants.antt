use Rattle.std.proofs.Common.{◌≡◌, drop}
use Rattle.std.specs.Str.{str_to_ascii_lowercase}
use Rattle.accounts.specs.Shown.{begins}
use Rattle.accounts.proofs.shown.begins.Given as goal

abbrev pub invariant-loop-i : goal.invariant-loop-i
invariant-loop-i l =
    begins (drop l.i l.front) (drop l.i (str_to_ascii_lowercase l.text)) ≡ begins l.front (str_to_ascii_lowercase l.text)
