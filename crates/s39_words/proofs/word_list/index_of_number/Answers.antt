use Rattle.std.proofs.Common.{refl, sym, ap, ◌∙◌, arith, rules}
use Rattle.std.specs.Result.{result_ok}
use Rattle.std.proofs.lemmas.List.Sorted.{answers_always}
use Rattle.s39_words.specs.Rows.{row_of, number_of_row}
use Rattle.s39_words.specs.Layout.{IsIndex}
use Rattle.s39_words.proofs.WordSearch.{index_of_search, found_in_list}
use Rattle.s39_words.proofs.word_list.index_of_number.Goals as goal

pub overflow_cast-result : goal.overflow_cast-result
overflow_cast-result c =
    let below : IsIndex c.in-Ok.index = found_in_list c.rows.result.now c.binary_search_by_key.result _ c.rows.ensures
    c.binary_search_by_key.ensures.bound (sym (ap result_ok c.in-Ok.is)) in
    omega arith

pub returns-in-Ok-clause-same : goal.returns-in-Ok-clause-same
returns-in-Ok-clause-same c = λ word fits number_is.
    sym (ap result_ok c.in-Ok.is)
    ∙ sym (index_of_search word (row_of word) c.args.number c.rows.result.now c.binary_search_by_key.result fits refl number_is
    c.rows.ensures c.binary_search_by_key.ensures.bound (c.binary_search_by_key.ensures.position number_of_row
    (answers_always _ _ _ (λ f a r g called. search rules))))

pub returns-in-Ok-clause-in_list : goal.returns-in-Ok-clause-in_list
returns-in-Ok-clause-in_list c =
    found_in_list c.rows.result.now c.binary_search_by_key.result _ c.rows.ensures c.binary_search_by_key.ensures.bound (sym (ap result_ok c.in-Ok.is))

pub returns-in-Err-clause-same : goal.returns-in-Err-clause-same
returns-in-Err-clause-same c = λ word fits number_is.
    sym (ap result_ok c.in-Err.is)
    ∙ sym (index_of_search word (row_of word) c.args.number c.rows.result.now c.binary_search_by_key.result fits refl number_is
    c.rows.ensures c.binary_search_by_key.ensures.bound (c.binary_search_by_key.ensures.position number_of_row
    (answers_always _ _ _ (λ f a r g called. search rules))))
