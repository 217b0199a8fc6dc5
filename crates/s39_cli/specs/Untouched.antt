-- Refusals that leave the writer as it was, whatever the devices are.
use Rattle.std.specs.Prelude.{◌≡◌, List}
use Rattle.clap.specs.Words.{Text}
use Rattle.s39_command.specs.declared.command.Call.{Call}
use Rattle.s39_command.specs.declared.command.Job.{Job}
use Rattle.s39_command.specs.declared.command.Job.TheVariants.{Create, Recover, Reissue, Resplit}
use Rattle.s39_command.specs.Command.{GivesCall}
use Rattle.s39_cli.specs.declared.runner.Ended.{Ended}
use Rattle.s39_cli.specs.declared.work.Work.{Work}
use Rattle.s39_cli.specs.declared.work.Work.TheVariants as work
use Rattle.s39_cli.specs.Ending.{OnEnd}

-- what the job writes goes out at its end, and nothing before that: it creates, recovers, reissues or splits anew
abbrev pub WritesAtItsEnd : Job → Type 0
WritesAtItsEnd (Create plan exponent extendable) = Unit {0}
WritesAtItsEnd (Recover form expected) = Unit {0}
WritesAtItsEnd (Reissue plan names) = Unit {0}
WritesAtItsEnd (Resplit plan file) = Unit {0}
WritesAtItsEnd _ = ⊥

module _ {R W : Type 0} where
  -- with exit status 2 nothing is written; nor is it with 1, if the words give such a job
  abbrev pub IsUntouchedIfRefused : List Text → Ended R W → W → Type 0
  IsUntouchedIfRefused words ended writer = OnEnd ended (λ status read_to written_to.
      (status ≡ 2 → written_to ≡ writer)
      × ((call : Call) → GivesCall words call → WritesAtItsEnd call.job → status ≡ 1 → written_to ≡ writer))

-- ---- within the program; no public contract cites this

-- the work is that of such a job
abbrev pub IsAtItsEnd : Work → Type 0
IsAtItsEnd (work.Create creation) = Unit {0}
IsAtItsEnd (work.Recover passphrase form expected) = Unit {0}
IsAtItsEnd (work.Reissue reissue) = Unit {0}
IsAtItsEnd (work.Resplit resplit) = Unit {0}
IsAtItsEnd _ = ⊥

module _ {R W : Type 0} where
  -- with exit status 2 nothing is written; nor is it with 1, if the job is such a job
  abbrev pub IsUntouchedBy : Job → Ended R W → W → Type 0
  IsUntouchedBy job ended writer = OnEnd ended (λ status read_to written_to.
      (status ≡ 2 → written_to ≡ writer) × (WritesAtItsEnd job → status ≡ 1 → written_to ≡ writer))
