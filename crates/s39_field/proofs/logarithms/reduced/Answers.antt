use Rattle.s39_field.proofs.Tables.{power-less}
use Rattle.s39_field.proofs.logarithms.reduced.Goals as goal

pub returns-else-i-lt-NONZERO_BYTES-clause-same : goal.returns-else-i-lt-NONZERO_BYTES-clause-same
returns-else-i-lt-NONZERO_BYTES-clause-same c = power-less c.args.i c.if-i-lt-NONZERO_BYTES.false
