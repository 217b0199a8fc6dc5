-- The indices of a text's words, or the first word that has none, and the number of words.
use Rattle.std.proofs.Common.{◌≡◌, ◌↔◌, ℕ, suc, Bool, true, false, ◌+◌, ◌<◌, ◌≤◌, List, [], ◌∷◌, ◌++◌, length, take, Option, Some, None, add-one}
use Rattle.std.proofs.Common.{Result, Ok, Err, append_assoc, refl, sym, ap, subst, ◌∙◌, ⊎_elim, arith}
use Rattle.std.specs.Prelude.{map, All, IsOk, OnOk, OnErr, bytes_eq, not, cond, ◌==◌, nat_lt}
use Rattle.arrayvec.specs.ArrayVec.{ArrayVec}
use Rattle.std.proofs.lemmas.Bool.{false≢true, false_from_ne_true, cases_lt}
use Rattle.std.proofs.lemmas.Bool.Decides.{nat_tests}
use Rattle.std.proofs.lemmas.List.{length-map, length-append, take_all, append-nil}
use Rattle.std.proofs.lemmas.List.Elements.{All-nil, All-cons, All-push, All-same, All-take}
use Rattle.std.proofs.lemmas.List.Quantifiers.{position-Some}
use Rattle.s39_lists.proofs.Ranges.{take_push_full, take_push_short}
use Rattle.s39_words.specs.declared.word_error.WordError.{WordError}
use Rattle.s39_words.specs.declared.word_error.WordError.TheVariants.{UnknownWord, WordCount, BadChecksum, BadPadding, GroupThreshold}
use Rattle.s39_words.specs.Division.{has_valid_checksum}
use Rattle.s39_words.specs.Layout.{most_words, IsIndex}
use Rattle.s39_words.specs.WordList.{word_list, index_of}
use Rattle.s39_words.specs.Spelling.{words_of, HaveIndices}
use Rattle.s39_words.specs.Reading.{IsWordCount, has_word_count, flag_of, padding_of, stored_group_threshold, stored_group_count, fields_at}
use Rattle.s39_words.specs.Reading.{with_first, indices_from, reading_of_words, reading}
use Rattle.s39_words.proofs.WordTable.{length-word_list}

pub length_indices : (ws : List (List ℕ)) (is : List ℕ) → HaveIndices ws is → length is ≡ length ws
length_indices ws is h = sym (length-map is Some) ∙ sym (ap length h) ∙ length-map ws index_of

pub index_below : (word : List ℕ) (i : ℕ) → index_of word ≡ Some i → IsIndex i
index_below word i e = subst (λ n. i < n) length-word_list (position-Some (λ v. bytes_eq v word) word_list i [] e).0

-- every index is one of the word list
pub indices_below : (ws : List (List ℕ)) (is : List ℕ) → HaveIndices ws is → All IsIndex is
indices_below ws [] h = All-nil IsIndex
indices_below [] (i ∷ is) h = cc
indices_below (w ∷ ws) (i ∷ is) h =
    let head : index_of w ≡ Some i = cc in
    let tails : map index_of ws ≡ map Some is = cc in
    All-cons IsIndex i is (index_below w i head) (indices_below ws is tails)

pub word_count_test : (n : ℕ) → (has_word_count n ≡ true) ↔ IsWordCount n
word_count_test n = (
  λ t. record { padding = grind (arith, nat_tests); at_least = grind (arith, nat_tests); at_most = grind (arith, nat_tests) },
  λ h. grind (arith, nat_tests),
)

-- ---- the reading of indices, from the first word on

pub indices_known : (position : ℕ) (words : List (List ℕ)) (indices : List ℕ) → HaveIndices words indices → indices_from position words ≡ Ok indices
indices_known position [] [] h = refl
indices_known position [] (i ∷ is) h = cc
indices_known position (w ∷ ws) [] h = cc
indices_known position (w ∷ ws) (i ∷ is) h =
    let head : index_of w ≡ Some i = cc in
    let tails : map index_of ws ≡ map Some is = cc in
    rw (head, indices_known (suc position) ws is tails) refl

pub have_indices : (position : ℕ) (words : List (List ℕ)) (indices : List ℕ) → indices_from position words ≡ Ok indices → HaveIndices words indices
have_indices position [] [] e = refl
have_indices position [] (i ∷ is) e = cc
have_indices position (w ∷ ws) indices e =
    by (λ is rest. have_indices (suc position) ws is rest) (index_of w) (indices_from (suc position) ws) refl refl e
  where
    by : ((is : List ℕ) → indices_from (suc position) ws ≡ Ok is → HaveIndices ws is)
        → (o : Option ℕ) (later : Result (List ℕ) WordError) → index_of w ≡ o → indices_from (suc position) ws ≡ later
        → with_first o position later ≡ Ok indices → HaveIndices (w ∷ ws) indices
    by later_have None later head rest e = cc
    by later_have (Some i) (Err error) head rest e = cc
    by later_have (Some i) (Ok is) head rest e =
        let tails : map index_of ws ≡ map Some is = later_have is rest in
        let same : i ∷ is ≡ indices = cc in
        rw (head, tails, ← same) refl

-- words have one list of indices
pub indices_same : (ws : List (List ℕ)) (is js : List ℕ) → HaveIndices ws is → HaveIndices ws js → is ≡ js
indices_same ws is js h k = let e : Ok is ≡ Ok js = sym (indices_known 1 ws is h) ∙ indices_known 1 ws js k in cc

-- words of which one is unknown have no list of indices
pub unknown_excludes_indices : (words : List (List ℕ)) (position : ℕ) (indices : List ℕ) → reading_of_words words ≡ Err (UnknownWord position)
    → HaveIndices words indices → ⊥
unfolding reading_of_words
unknown_excludes_indices words position indices e h =
    by (not (has_word_count (length indices))) (not (has_valid_checksum (flag_of indices) indices)) (not (padding_of indices == 0))
    (nat_lt (stored_group_count indices) (stored_group_threshold indices)) (rw (indices_known 1 words indices h) at e)
  where
    by : (a b c d : Bool)
        → cond a (Err (WordCount (length indices))) (cond b (Err BadChecksum) (cond c (Err BadPadding) (cond d (Err GroupThreshold) (Ok (fields_at indices)))))
        ≡ Err (UnknownWord position) → ⊥
    by true b c d e = cc
    by false true c d e = cc
    by false false true d e = cc
    by false false false true e = cc
    by false false false false e = cc

-- words that are as many as a mnemonic may have aren't refused for their number
pub count_isn't_refused : (words : List (List ℕ)) (n : ℕ) (indices : List ℕ) → reading_of_words words ≡ Err (WordCount n) → HaveIndices words indices
    → IsWordCount (length indices) → ⊥
unfolding reading_of_words
count_isn't_refused words n indices e h count =
    let many = (word_count_test (length indices)).1 count in
    by (not (has_valid_checksum (flag_of indices) indices)) (not (padding_of indices == 0))
    (nat_lt (stored_group_count indices) (stored_group_threshold indices)) (rw (indices_known 1 words indices h, many) at e)
  where
    by : (b c d : Bool) → cond b (Err BadChecksum) (cond c (Err BadPadding) (cond d (Err GroupThreshold) (Ok (fields_at indices)))) ≡ Err (WordCount n) → ⊥
    by true c d e = cc
    by false true d e = cc
    by false false true e = cc
    by false false false e = cc

-- ---- word by word

-- indices, and those of later words
abbrev behind : List ℕ → Result (List ℕ) WordError → Result (List ℕ) WordError
behind indices (Ok later) = Ok (indices ++ later)
behind indices (Err error) = Err error

behind_none : (later : Result (List ℕ) WordError) → behind [] later ≡ later
behind_none (Ok later) = refl
behind_none (Err error) = refl

behind_more : (indices : List ℕ) (i position : ℕ) (later : Result (List ℕ) WordError)
    → behind indices (with_first (Some i) position later) ≡ behind (indices ++ i ∷ []) later
behind_more indices i position (Ok later) = ap (λ is. Ok is) (sym (append_assoc indices (i ∷ []) later))
behind_more indices i position (Err error) = refl

-- these n words of the text have indices, of which the first most_words are kept, and the words of the rest come next
pub record KeepsWords (text rest kept : List ℕ) (n : ℕ) : Type 0 where
  pub all : List ℕ
  pub known : indices_from 1 (words_of text) ≡ behind all (indices_from (suc n) (words_of rest))
  pub kept_is : kept ≡ take most_words all
  pub count : n ≡ length all
  pub in_list : All IsIndex all

pub keeps_none : (text rest : List ℕ) → words_of rest ≡ words_of text → KeepsWords text rest [] 0
keeps_none text rest same = record {
  all = [];
  known = sym (behind_none (indices_from 1 (words_of rest)) ∙ ap (indices_from 1) same);
  kept_is = refl;
  count = refl;
  in_list = All-nil IsIndex;
}

kept_more : {E : Type 0} (all : List ℕ) (v v' : ArrayVec ℕ) (i : ℕ) (r : Result (Unit {0}) E) → v.items ≡ take most_words all
    → OnOk r (v'.items ≡ v.items ++ i ∷ []) → OnErr r (v' ≡ v) → (IsOk r ↔ (length v.items < most_words)) → v'.items ≡ take most_words (all ++ i ∷ [])
kept_more all v v' i (Ok u) is ok err room =
    let short : length (take most_words all) < most_words = subst (λ xs. length xs < most_words) is (room.0 refl) in
    ok ∙ ap (λ xs. xs ++ i ∷ []) is ∙ sym (take_push_short most_words all i short)
kept_more all v v' i (Err u) is ok err room =
    let full : most_words ≤ length (take most_words all) =
    subst (λ xs. most_words ≤ length xs) is (⊎_elim (λ few. absurd (false≢true (room.1 few))) (λ many. many) (cases_lt (length v.items) most_words)) in
    ap (λ (u : ArrayVec ℕ). u.items) err ∙ is ∙ sym (take_push_full most_words all i full)

-- one word more, and the separators behind it; its index is kept if there is room
pub keeps_word : {E : Type 0} (text rest after next word : List ℕ) (v v' : ArrayVec ℕ) (n i : ℕ) (r : Result (Unit {0}) E) → KeepsWords text rest v.items n
    → words_of rest ≡ word ∷ words_of after → words_of next ≡ words_of after → index_of word ≡ Some i
    → OnOk r (v'.items ≡ v.items ++ i ∷ []) → OnErr r (v' ≡ v) → (IsOk r ↔ (length v.items < most_words)) → KeepsWords text next v'.items (n + 1)
keeps_word text rest after next word v v' n i r h first same known ok err room = record {
  all = h.all ++ i ∷ [];
  known =
      h.known
      ∙ ap (λ ws. behind h.all (indices_from (suc n) ws)) (first ∙ ap (λ ws. word ∷ ws) (sym same))
      ∙ ap (λ o. behind h.all (with_first o (suc n) (indices_from (suc (suc n)) (words_of next)))) known
      ∙ behind_more h.all i (suc n) (indices_from (suc (suc n)) (words_of next))
      ∙ ap (λ k. behind (h.all ++ i ∷ []) (indices_from (suc k) (words_of next))) (sym (add-one n));
  kept_is = kept_more h.all v v' i r h.kept_is ok err room;
  count = omega (arith, h.count, length-append h.all (i ∷ []));
  in_list = All-push IsIndex h.all i h.in_list (index_below word i known);
}

-- the next word isn't in the list
pub first_unknown : (text rest kept : List ℕ) (n : ℕ) → KeepsWords text rest kept n
    → (word : List ℕ) × (later : List (List ℕ)) × (words_of rest ≡ word ∷ later) × (index_of word ≡ None) → reading text ≡ Err (UnknownWord (n + 1))
unfolding reading_of_words
first_unknown text rest kept n h (word, later, first, unknown) =
    rw (h.known, first, unknown) (ap (λ k. Err (UnknownWord k)) (sym (add-one n)))

pub at_most_words : (n : ℕ) → IsWordCount n → n ≤ most_words
at_most_words n h = omega arith

module _ (text rest kept : List ℕ) (n : ℕ) (h : KeepsWords text rest kept n) (ended : rest ≡ []) where
  all_known : indices_from 1 (words_of text) ≡ Ok h.all
  all_known = h.known ∙ ap (λ r. behind h.all (indices_from (suc n) (words_of r))) ended ∙ ap (λ is. Ok is) (append-nil h.all)

  -- all words have indices, and a mnemonic may have as many
  pub all_kept : IsWordCount n → (indices_from 1 (words_of text) ≡ Ok kept) × IsWordCount (length kept)
  all_kept count =
      let few : length h.all ≤ most_words = subst (λ m. m ≤ most_words) h.count (at_most_words n count) in
      let is_all : kept ≡ h.all = h.kept_is ∙ take_all most_words h.all few in
      (all_known ∙ ap (λ is. Ok is) (sym is_all), subst IsWordCount (h.count ∙ sym (ap length is_all)) count)

  -- all words have indices, and no mnemonic has as many
  pub no_word_count : (IsWordCount n → ⊥) → reading text ≡ Err (WordCount n)
  unfolding reading_of_words
  no_word_count none =
      let test : has_word_count (length h.all) ≡ false =
      false_from_ne_true (has_word_count (length h.all)) (λ t. none (subst IsWordCount (sym h.count) ((word_count_test (length h.all)).0 t))) in
      rw (all_known, test) (ap (λ k. Err (WordCount k)) (sym h.count))

pub kept_below : (text rest kept : List ℕ) (n : ℕ) → KeepsWords text rest kept n → All IsIndex kept
kept_below text rest kept n h = All-same IsIndex kept (take most_words h.all) h.kept_is (All-take IsIndex most_words h.all h.in_list)
