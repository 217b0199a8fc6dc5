use Rattle.std.proofs.Common.{◌≡◌, ◌-◌, ◌<◌, get_or, sym, ap, ◌∙◌, subst, arith}
use Rattle.s39_field.specs.FieldProduct.{byte_field, nonzero_bytes}
use Rattle.s39_field.specs.Polynomial.{power}
use Rattle.s39_field.proofs.Tables.{logarithm-lt, logarithm_at}
use Rattle.s39_field.proofs.logarithms.logarithm.Goals as goal
use Rattle.s39_field.specs.declared.logarithms.TheConstants.{LOGARITHMS}

pub returns : goal.returns
returns c =
    let index : c.args.a - 1 < nonzero_bytes = omega arith in
    let read : c.from-2.result ≡ get_or LOGARITHMS (c.args.a - 1) 0 =
    c.from-2.ensures ∙ ap (λ n. get_or LOGARITHMS (n - 1) 0) c.from.ensures in
    record {
      below = subst (λ n. n < nonzero_bytes) (sym read) (logarithm-lt (c.args.a - 1) index);
      is = ap (power byte_field 3) read ∙ logarithm_at (c.args.a - 1) index ∙ omega arith;
    }
