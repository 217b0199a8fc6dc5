use Rattle.std.proofs.Common.{false, codes, pos, refl}
use Rattle.clap.specs.declared.builder.value_parser.ValueParser.TheVariants as vp
use Rattle.clap.proofs.ValueTestLemmas.{accepts-Accepts}
use Rattle.s39_command.proofs.laws.there_are_such_numbers.Goals as goal

pub returns-clause-least : goal.returns-clause-least
returns-clause-least c = accepts-Accepts false (vp.Signed (pos 1) (pos 4294967295)) (codes "1") refl

pub returns-clause-default : goal.returns-clause-default
returns-clause-default c = accepts-Accepts false (vp.Signed (pos 1) (pos 4294967295)) (codes "1000") refl

pub returns-clause-above_a_thousand : goal.returns-clause-above_a_thousand
returns-clause-above_a_thousand c = accepts-Accepts false (vp.Signed (pos 1) (pos 4294967295)) (codes "1001") refl

pub returns-clause-greatest : goal.returns-clause-greatest
returns-clause-greatest c = accepts-Accepts false (vp.Signed (pos 1) (pos 4294967295)) (codes "4294967295") refl

pub returns-clause-value : goal.returns-clause-value
returns-clause-value c = refl

pub returns-clause-least_exponent : goal.returns-clause-least_exponent
returns-clause-least_exponent c = accepts-Accepts false (vp.Signed (pos 0) (pos 15)) (codes "0") refl

pub returns-clause-greatest_exponent : goal.returns-clause-greatest_exponent
returns-clause-greatest_exponent c = accepts-Accepts false (vp.Signed (pos 0) (pos 15)) (codes "15") refl
