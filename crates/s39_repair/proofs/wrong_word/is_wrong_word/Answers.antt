use Rattle.std.proofs.Common.{sym, ◌∙◌, ⊎_elim}
use Rattle.std.proofs.lemmas.Bool.{false≢true}
use Rattle.s39_repair.proofs.Flags.{plain_or_not}
use Rattle.s39_repair.proofs.wrong_word.is_wrong_word.Goals as goal

pub returns-else-finds : goal.returns-else-finds
returns-else-finds c = (
  c.finds-else-finds.ensures.wrong,
  λ wrong. ⊎_elim
      (λ plain. absurd (false≢true (sym c.if-finds.false ∙ c.finds.ensures.only wrong (plain ∙ sym c.requires.flags.0))))
      (λ extendable. c.finds-else-finds.ensures.only wrong (extendable ∙ sym c.requires.flags.1))
      (plain_or_not wrong.share.extendable),
)
