use Rattle.std.proofs.Common.{refl}
use Rattle.std.proofs.lemmas.Result.{err_from_is_err_and}
use Rattle.s39_input.specs.Steps.{gives, refuses}
use Rattle.s39_reading.proofs.encrypted.encrypted_of.Goals as goal

pub returns-in_err-quorum-clause-refused : goal.returns-in_err-quorum-clause-refused
returns-in_err-quorum-clause-refused c =
    let p = err_from_is_err_and c.from_residual.result c.from_residual.ensures.1 in
    rw (p.1, p.2) (refuses c.in_err-quorum.field-0.0 c.in_err-quorum.ensures.lack refl)

pub returns-in_err-bytes-clause-refused : goal.returns-in_err-bytes-clause-refused
returns-in_err-bytes-clause-refused c =
    let p = err_from_is_err_and c.from_residual-in_err-bytes.result c.from_residual-in_err-bytes.ensures.1 in
    rw (p.1, p.2) (gives c.in_ok-quorum.quorum c.in_ok-quorum.ensures.first
    (refuses c.in_err-bytes.field-0.0 c.in_err-bytes.ensures.combination refl))

pub returns-clause-encrypted : goal.returns-clause-encrypted
returns-clause-encrypted c =
    gives c.in_ok-quorum.quorum c.in_ok-quorum.ensures.first
    (gives c.in_ok-bytes.bytes.items c.in_ok-bytes.ensures.combination (c.params_of-params.result, c.params_of-params.ensures, refl))
