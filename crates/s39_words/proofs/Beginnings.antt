-- The first four letters of a listed word tell it from all others, so no listed word begins another.
use Rattle.std.proofs.Common.{◌≡◌, ℕ, ◌≤◌, List, [], ◌++◌, length, get_or, take, sym, ap, subst, ◌∙◌, ⊎_elim, arith}
use Rattle.std.specs.Prelude.{◌≢◌, map, AllPairs, Contains}
use Rattle.std.specs.Ordering.{nat_cmp}
use Rattle.std.specs.declared.cmp.Ordering.TheVariants.{Less, Equal}
use Rattle.std.specs.Cmp.Lexicographic.{slice_cmp}
use Rattle.std.proofs.lemmas.Bool.{cases_lt}
use Rattle.std.proofs.lemmas.Cmp.{nat_list_cmp_total, tied_itself}
use Rattle.std.proofs.lemmas.List.{get_or-map, get_or_default, length-map, length-append, nil_from_length, take-append-le}
use Rattle.s39_words.specs.Layout.{shortest_word, telling_letters}
use Rattle.s39_words.specs.WordList.{word_list, ComesBefore}
use Rattle.s39_words.proofs.WordTable.{lengths, starts_ascending}

-- nothing comes before itself
before_itself : (v w : List ℕ) → ComesBefore v w → v ≢ w
before_itself v w less same =
    let tied : slice_cmp nat_cmp w w ≡ Equal = tied_itself nat_list_cmp_total w in
    let less' : slice_cmp nat_cmp w w ≡ Less = subst (λ u. slice_cmp nat_cmp u w ≡ Less) same less in
    cc

pub begin_apart : AllPairs (λ v w. take telling_letters v ≢ take telling_letters w) word_list
begin_apart k i d below within =
    let starts = map (take telling_letters) word_list in
    let n : length starts ≡ length word_list = length-map word_list (take telling_letters) in
    let less = starts_ascending k i [] below (omega (arith, n)) in
    let apart = before_itself (get_or starts k []) (get_or starts i []) less in
    λ same. apart (get_or-map (take telling_letters) word_list k d [] (omega arith) ∙ same ∙ sym (get_or-map (take telling_letters) word_list i d [] within))

-- the letters behind a listed word, where both together are one
pub no_word_begins_another : (word rest : List ℕ) → Contains word_list word → Contains word_list (word ++ rest) → rest ≡ []
no_word_begins_another word rest (k, k_within, k_is) (i, i_within, i_is) =
    let at_k : get_or word_list k [] ≡ word = get_or_default word_list k [] word k_within ∙ k_is in
    let at_i : get_or word_list i [] ≡ word ++ rest = get_or_default word_list i [] (word ++ rest) i_within ∙ i_is in
    let long : shortest_word ≤ length word = subst (λ v. shortest_word ≤ length v) at_k (lengths k [] k_within).0 in
    let same : take telling_letters (get_or word_list k []) ≡ take telling_letters (get_or word_list i []) =
    ap (take telling_letters) at_k ∙ sym (take-append-le telling_letters word rest long) ∙ sym (ap (take telling_letters) at_i) in
    ⊎_elim
    (λ below. absurd (begin_apart k i [] below i_within same))
    (λ not_below. ⊎_elim
    (λ above. absurd (begin_apart i k [] above k_within (sym same)))
    (λ not_above.
    let one : k ≡ i = omega arith in
    let whole : word ≡ word ++ rest = sym at_k ∙ ap (λ j. get_or word_list j []) one ∙ at_i in
    nil_from_length rest (omega (arith, ap length whole, length-append word rest)))
    (cases_lt i k))
    (cases_lt k i)
