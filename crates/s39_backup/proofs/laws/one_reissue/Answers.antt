use Rattle.std.proofs.Common.{sym, ◌∙◌}
use Rattle.s39_lists.proofs.Finds.{some_same}
use Rattle.s39_backup.proofs.laws.one_reissue.Goals as goal

pub returns : goal.returns
returns c = λ set group_threshold groups name result other is plan one another. some_same result other (sym one ∙ another)
