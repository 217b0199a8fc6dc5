use Rattle.std.proofs.Common.{sym, ap, subst, rules, of_calls, arith, length}
use Rattle.std.specs.List.Sorted.{IsPartitionedBy}
use Rattle.std.proofs.lemmas.Fn.{always_returns_same}
use Rattle.std.proofs.lemmas.List.{length-map}
use Rattle.s39_words.specs.Rows.{row_of}
use Rattle.s39_words.specs.WordList.{word_list}
use Rattle.s39_words.proofs.Prefixes.{is_before, before_parts, point_is}
use Rattle.s39_words.proofs.WordTable.{length-word_list}
use Rattle.s39_words.proofs.prefix.first_from.Goals as goal

pub returns-clause-point : goal.returns-clause-point
returns-clause-point c =
    let small = c.args.letters.now in
    let parts = subst (IsPartitionedBy (is_before small)) (sym c.rows.ensures) (before_parts small) in
    point_is (is_before small) c.rows.result.now c.partition_point.result c.rows.ensures
    (c.partition_point.ensures.partitioned (is_before small) (always_returns_same _ _ _ (λ a r f k. search (rules, of_calls))) parts)

pub returns-clause-bound : goal.returns-clause-bound
returns-clause-bound c =
    omega (arith, c.partition_point.ensures.bound, ap length c.rows.ensures, length-map word_list row_of, length-word_list)
