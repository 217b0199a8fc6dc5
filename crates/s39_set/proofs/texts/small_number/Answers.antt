use Rattle.std.proofs.Common.{Some, ap, arith}
use Rattle.s39_set.proofs.NumberText.{looks, text_of_one, text_of_two}
use Rattle.s39_set.proofs.texts.small_number.Goals as goal

pub returns-in-48-to-57-clause-text : goal.returns-in-48-to-57-clause-text
returns-in-48-to-57-clause-text c = text_of_one c.args.text.now (omega arith) (omega arith) (omega arith)

pub returns-in-48-to-57-clause-only : goal.returns-in-48-to-57-clause-only
returns-in-48-to-57-clause-only c = λ n low e. ap Some (let h = (looks c.args.text.now n low e).one (omega arith) in omega arith)

pub returns-in-49-to-57-clause-text : goal.returns-in-49-to-57-clause-text
returns-in-49-to-57-clause-text c = text_of_two c.args.text.now (omega arith) (omega arith) (omega arith) (omega arith) (omega arith)

pub returns-in-49-to-57-clause-only : goal.returns-in-49-to-57-clause-only
returns-in-49-to-57-clause-only c = λ n low e. ap Some (let h = (looks c.args.text.now n low e).two (omega arith) in omega arith)

pub returns-in_default-clause-only : goal.returns-in_default-clause-only
returns-in_default-clause-only c = λ n low e. let h = looks c.args.text.now n low e in absurd (omega arith)

pub returns-in_default-2-clause-only : goal.returns-in_default-2-clause-only
returns-in_default-2-clause-only c = λ n low e. let h = looks c.args.text.now n low e in absurd (omega arith)

pub returns-in_default-3-clause-only : goal.returns-in_default-3-clause-only
returns-in_default-3-clause-only c = λ n low e. let h = looks c.args.text.now n low e in absurd (omega arith)

pub returns-in_default-4-clause-only : goal.returns-in_default-4-clause-only
returns-in_default-4-clause-only c = λ n low e. let h = looks c.args.text.now n low e in absurd (omega arith)

pub returns-in_default-5-clause-only : goal.returns-in_default-5-clause-only
returns-in_default-5-clause-only c = λ n low e. let h = looks c.args.text.now n low e in absurd (omega arith)

pub returns-in_default-6-clause-only : goal.returns-in_default-6-clause-only
returns-in_default-6-clause-only c = λ n low e. let h = looks c.args.text.now n low e in absurd (omega arith)

pub returns-in_default-7-clause-only : goal.returns-in_default-7-clause-only
returns-in_default-7-clause-only c = λ n low e. let h = looks c.args.text.now n low e in absurd (omega arith)

pub returns-in_default-8-clause-only : goal.returns-in_default-8-clause-only
returns-in_default-8-clause-only c = λ n low e. let h = looks c.args.text.now n low e in absurd (omega arith)
