use Rattle.std.proofs.Common.{sym, ◌∙◌}
use Rattle.s39_secrecy.proofs.OneToOne.{correspondent, is_correspondent, correspondent_once, correspond_back}
use Rattle.s39_secrecy.proofs.laws.one_correspondent.Goals as goal

pub returns-clause-exists : goal.returns-clause-exists
returns-clause-exists c asked other names random setting are =
    let is = is_correspondent asked other names setting random are in
    (correspondent asked other names setting random, is.correspond, is.are)

pub returns-clause-once : goal.returns-clause-once
returns-clause-once c asked other names random fitted also setting are first second =
    correspondent_once asked other names setting random also are second
    ∙ sym (correspondent_once asked other names setting random fitted are first)

pub returns-clause-back : goal.returns-clause-back
returns-clause-back c asked other names random fitted setting are going = correspond_back asked other names setting random fitted are going
