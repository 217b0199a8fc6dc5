use Rattle.s39_input.specs.Create.{IsCreateOutput}
use Rattle.s39_creating.proofs.Runs.OnePut.{puts_once}
use Rattle.s39_creating.proofs.laws.one_text_in_a_slice.Goals as goal

pub returns : goal.returns
returns c = λ asked input. puts_once (IsCreateOutput asked input) (c.one_create_output.ensures.once asked input)
