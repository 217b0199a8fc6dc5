-- What is asked for with a plan.
use Rattle.std.specs.Prelude.{ℕ, List}
use Rattle.s39_backup.specs.declared.plan.Plan.{Plan}
use Rattle.s39_backup.specs.declared.options.Options.{Options}
use Rattle.s39_backup.specs.Created.{Asked, asked_for}

-- a backup of this secret, with this passphrase, plan and options
abbrev pub asked_of : Plan → List ℕ → List ℕ → Options → Asked
asked_of plan secret passphrase options = asked_for secret passphrase plan.group_threshold plan.groups.items options
