-- Inputs whose lines hold mnemonics of one created backup, and what `recover` gives for them.
use Rattle.std.specs.Prelude.{◌≡◌, ℕ, List, All, Contains, Option, IfSome, true, Ok}
use Rattle.s39_words.specs.declared.ShareFields.{ShareFields}
use Rattle.s39_backup.specs.declared.plan.Members.{Members}
use Rattle.s39_backup.specs.declared.options.Options.{Options}
use Rattle.s39_backup.specs.Plan.{IsPlan}
use Rattle.s39_backup.specs.Created.{IsCreation, asked_for}
use Rattle.s39_input.specs.Input.{Input, lines_of}
use Rattle.s39_input.specs.Lines.{Holds}

-- a line is blank, a comment, or a mnemonic of one of these shares
abbrev pub HoldsNothingOrOneOf : List ShareFields → List ℕ → Type 0
HoldsNothingOrOneOf shares line = (held : Option ShareFields) × Holds line held × IfSome held (Contains shares)

-- An input that ended, each of whose lines is blank, a comment, or a mnemonic of one backup. The backup was created
-- from this secret with this passphrase, whatever the plan, the options and the random bytes. The mnemonics stand in
-- any order, and they may repeat.
pub record HoldsMnemonicsOf (passphrase secret : List ℕ) (input : Input) : Type 0 where
  pub group_threshold : ℕ
  pub groups : List Members
  pub options : Options
  pub random : List ℕ
  pub shares : List ShareFields
  pub is_plan : IsPlan group_threshold groups
  pub created : IsCreation (asked_for secret passphrase group_threshold groups options) random (Ok shares)
  pub ended : input.ended ≡ true
  pub lines : All (HoldsNothingOrOneOf shares) (lines_of input)
