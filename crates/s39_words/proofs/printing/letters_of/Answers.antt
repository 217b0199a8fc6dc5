use Rattle.std.proofs.Common.{eqb, ap, ◌∙◌, rules, tests}
use Rattle.std.proofs.lemmas.Iterator.{YieldsList-from_slice}
use Rattle.std.proofs.lemmas.Iterator.Search.{position_from_yields_List}
use Rattle.std.specs.Prelude.{unwrap_or}
use Rattle.s39_words.proofs.Listed.{row_front}
use Rattle.s39_words.proofs.printing.letters_of.Goals as goal

pub returns : goal.returns
returns c = λ word fits is_row.
    let row = c.args.row.now in
    let at = position_from_yields_List (λ b. eqb b 32) _ _ c.position.result c.position.ensures.ran (YieldsList-from_slice row cc)
    (λ x b q k. search (rules, tests)) in
    row_front word row c.unwrap_or-len.result fits is_row (c.unwrap_or-len.ensures ∙ ap (λ o. unwrap_or o 8) at)
