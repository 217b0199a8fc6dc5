use Rattle.s39_c.proofs.OneAnswer.{reissue_once}
use Rattle.s39_c.proofs.laws.one_reissue.Goals as goal

pub returns : goal.returns
returns c = reissue_once c.one_plan_reading.ensures c.written_forms.ensures.once c.one_reissue_output.ensures.once
