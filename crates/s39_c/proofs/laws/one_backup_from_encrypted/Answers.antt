use Rattle.s39_creating.specs.Resplit.{IsOutputFromEncrypted}
use Rattle.s39_c.specs.Answers.{out_of_range}
use Rattle.s39_c.specs.Encrypted.{AreParameters}
use Rattle.s39_c.proofs.InSteps.{step_once}
use Rattle.s39_c.proofs.OneAnswer.{split_once}
use Rattle.s39_c.proofs.OneDecryption.{parameters_once}
use Rattle.s39_c.proofs.laws.one_backup_from_encrypted.Goals as goal

pub returns : goal.returns
returns c = λ parameters encrypted random plan old.
    step_once (AreParameters parameters) (λ _. out_of_range) _ old (parameters_once parameters)
    (λ params _. split_once c.one_plan_reading.ensures (λ threshold groups. IsOutputFromEncrypted threshold groups random (params, encrypted))
    (λ threshold groups. c.one_output_from_encrypted.ensures.once threshold groups random (params, encrypted)) plan old)
