use Rattle.std.proofs.Common.{◌≤◌, length, sym, subst}
use Rattle.s39_c.proofs.lengths.names_fit.Goals as goal

pub returns : goal.returns
returns c = λ text names is. subst (λ t. length t ≤ 1215) (sym is.text_is) (c.names_are_short.ensures.most names is.are_names)
