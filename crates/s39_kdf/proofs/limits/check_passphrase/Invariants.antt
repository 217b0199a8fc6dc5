use Rattle.std.proofs.Common.{All, take}
use Rattle.s39_kdf.specs.Limits.{IsPrintable}
use Rattle.s39_kdf.proofs.limits.check_passphrase.Given as goal

abbrev pub invariant-loop-i : goal.invariant-loop-i
invariant-loop-i l = All IsPrintable (take l.i l.passphrase)
