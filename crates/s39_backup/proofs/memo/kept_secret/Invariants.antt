use Rattle.std.proofs.Common.{◌≢◌, All, take}
use Rattle.s39_backup.proofs.memo.kept_secret.Given as goal

abbrev pub invariant-loop-entry : goal.invariant-loop-entry
invariant-loop-entry l = All (λ entry. entry.encrypted.items ≢ l.encrypted.items) (take l.entry-index l.kept)
