use Rattle.s39_creating.proofs.Lengths.Reissues.{reissue_short}
use Rattle.s39_creating.proofs.length_laws.reissues_are_short.Goals as goal

pub returns : goal.returns
returns c = reissue_short c.printed_forms.ensures.short
