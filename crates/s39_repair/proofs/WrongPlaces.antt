-- Another word at one place.
use Rattle.std.proofs.Common.{◌≡◌, ◌≢◌, ℕ, suc, ◌-◌, ◌<◌, ◌≤◌, Bool, List, length}
use Rattle.std.proofs.Common.{get_or, refl, sym, ap, ap₂, subst, ◌∙◌, ⊎_elim, arith}
use Rattle.std.specs.Prelude.{All}
use Rattle.std.proofs.Math.ListN.{set}
use Rattle.std.proofs.lemmas.Bool.{cases_eq}
use Rattle.std.proofs.lemmas.List.{length-set, get_or-set_other, ext_get_or}
use Rattle.std.proofs.lemmas.List.Elements.{All-set}
use Rattle.s39_words.specs.Checksum.{IsValidChecksum}
use Rattle.s39_words.specs.Layout.{IsIndex, most_words}
use Rattle.s39_words.specs.Mistyping.{most_wrong_words}
use Rattle.s39_words.specs.Spelling.{Spells}
use Rattle.s39_words.specs.declared.share.ShareFields.{ShareFields}
use Rattle.s39_repair.specs.Answer.{IsWrongWord}
use Rattle.s39_repair.specs.declared.wrong_word.Search.{Search}
use Rattle.s39_repair.specs.Marks.{spelling}
use Rattle.s39_repair.specs.Searching.{IsAt}
use Rattle.s39_repair.specs.Sums.{locator, sum_with, value_of_sums, ArePlaces, AgreeElsewhere}
use Rattle.s39_field.specs.FieldProduct.{word_field}
use Rattle.s39_repair.proofs.Candidates.{spelled_checksum, spells_lost}
use Rattle.s39_repair.proofs.LostWords.{changed, next_sum, one_changed, only_words, set_one}

-- ---- another word at one place

-- if the words then spell a share, the word was wrong
pub wrong_from_spelled : (ws : List ℕ) (place w : ℕ) (share : ShareFields) → All IsIndex ws → place < length ws → IsIndex w
    → Spells (spelling (set ws place w)) share → IsWrongWord ws (suc place)
wrong_from_spelled ws place w share all within below spells = record {
  mnemonic = set ws place w;
  share = share;
  in_list = All-set IsIndex ws place w below all;
  spells = spells;
  positive = omega arith;
  within = omega arith;
  same_count = sym (length-set ws place w);
  elsewhere = λ p off. sym (get_or-set_other ws place p w 0 (λ e. off (ap suc e)));
}

module _ (ws : List ℕ) (place : ℕ) (is : IsWrongWord ws (suc place)) where
  same_elsewhere : (p : ℕ) → p ≢ place → get_or ws p 0 ≡ get_or is.mnemonic p 0
  same_elsewhere p off = is.elsewhere p (λ e. off (omega (arith, e)))

  -- and if it was wrong, they then are those of the mnemonic
  pub mended_is : set ws place (get_or is.mnemonic place 0) ≡ is.mnemonic
  mended_is = let within = is.within in set_one ws is.mnemonic place is.same_count (omega arith) same_elsewhere

-- the search finds it
module _ (ws : List ℕ) (place : ℕ) (search : Search) (all : All IsIndex ws) (short : length ws ≤ most_words) (within : place < length ws)
    (at : IsAt ws place search) (is : IsWrongWord ws (suc place)) (flag : is.share.extendable ≡ search.extendable) where
  valid : IsValidChecksum search.extendable is.mnemonic
  valid = spelled_checksum is.mnemonic is.share search.extendable is.in_list is.spells flag

  pub is_one_change : (search.sums.second ≡ word_field.mul search.sums.first search.x)
      × (search.sums.third ≡ word_field.mul search.sums.second search.x)
  is_one_change =
      let times = λ (m : ℕ) (low : 1 ≤ m) (high : m < most_wrong_words).
      next_sum search.extendable ws is.mnemonic place within short is.same_count (same_elsewhere ws place is) all is.in_list valid m low high in (
        at.second ∙ times 1 (omega arith) (omega arith) ∙ sym (ap₂ word_field.mul at.first at.locator_is),
        at.third ∙ times 2 (omega arith) (omega arith) ∙ sym (ap₂ word_field.mul at.second at.locator_is),
      )

  pub mended_spells : (text found : List ℕ) (inverse by : ℕ) → text ≡ spelling found → found ≡ set ws place (changed ws place by)
      → by ≡ word_field.mul search.sums.first inverse → inverse ≡ word_field.inv search.x → Spells text is.share
  mended_spells text found inverse by text_is found_is by_is inverse_is =
      let mnemonic : found ≡ is.mnemonic =
      found_is
      ∙ ap (λ b. set ws place (changed ws place b)) (by_is ∙ ap (word_field.mul search.sums.first) inverse_is)
      ∙ ap₂ (λ s x. set ws place (changed ws place (word_field.mul s (word_field.inv x)))) at.first at.locator_is
      ∙ one_changed search.extendable ws is.mnemonic place within short is.same_count (same_elsewhere ws place is) all is.in_list valid in
      spells_lost text found is.mnemonic is.share text_is mnemonic is.spells

-- ---- two places

-- two mnemonics with one flag that agree with the same words but at three places are one
pub one_valid : (extendable : Bool) (ws vs us : List ℕ) (i j k : ℕ) → ArePlaces i j k → AgreeElsewhere ws vs i j k → AgreeElsewhere ws us i j k → All IsIndex ws
    → All IsIndex vs → All IsIndex us → IsValidChecksum extendable vs → IsValidChecksum extendable us → vs ≡ us
one_valid extendable ws vs us i j k ps one other ews evs eus valid valid' =
    let value = λ (p q r : ℕ). value_of_sums word_field (sum_with extendable ws 1) (sum_with extendable ws 2) (sum_with extendable ws 3)
    (locator extendable p) (locator extendable q) (locator extendable r) in
    sym (only_words extendable ws i j k (value i j k) (value j i k) (value k i j) vs ps one ews evs valid refl refl refl)
    ∙ only_words extendable ws i j k (value i j k) (value j i k) (value k i j) us ps other ews eus valid' refl refl refl

-- two wrong words whose mnemonics have the same flag would leave no wrong word
pub two_alike : (ws : List ℕ) (a b : ℕ) → All IsIndex ws → length ws ≤ most_words → ((share : ShareFields) → Spells (spelling ws) share → ⊥)
    → (p : IsWrongWord ws a) → (q : IsWrongWord ws b) → a < b → p.share.extendable ≡ q.share.extendable → ⊥
two_alike ws a b ews short bad p q less flag =
    let i = a - 1 in
    let j = b - 1 in
    let k = length ws in
    let pa = p.positive in
    let qa = q.positive in
    let pw = p.within in
    let qw = q.within in
    let a_is : suc i ≡ a = omega arith in
    let b_is : suc j ≡ b = omega arith in
    let ps : ArePlaces i j k = record {
      first_second = λ e. omega (arith, e);
      first_third = λ e. omega (arith, e);
      second_third = λ e. omega (arith, e);
      first_in_range = omega arith;
      second_in_range = omega arith;
      third_in_range = omega arith;
    } in
    let same : p.mnemonic ≡ q.mnemonic =
    one_valid q.share.extendable ws p.mnemonic q.mnemonic i j k ps
    (record { same_count = p.same_count; elsewhere = λ r off_i off_j off_k. p.elsewhere r (λ e. off_i (omega (arith, e))) })
    (record { same_count = q.same_count; elsewhere = λ r off_i off_j off_k. q.elsewhere r (λ e. off_j (omega (arith, e))) })
    ews p.in_list q.in_list
    (spelled_checksum p.mnemonic p.share q.share.extendable p.in_list p.spells flag)
    (spelled_checksum q.mnemonic q.share q.share.extendable q.in_list q.spells refl) in
    let whole : ws ≡ p.mnemonic =
    ext_get_or 0 ws p.mnemonic p.same_count (λ r below. ⊎_elim
    (λ at. q.elsewhere r (λ e. omega (arith, e, at)) ∙ ap (λ us. get_or us r 0) (sym same))
    (λ off. p.elsewhere r off)
    (cases_eq (suc r) a)) in
    bad p.share (subst (λ us. Spells (spelling us) p.share) (sym whole) p.spells)

-- ---- laws

pub one_mnemonic : (mnemonic other : List ℕ) (share found : ShareFields) (i j k : ℕ) → ArePlaces i j k → AgreeElsewhere mnemonic other i j k
    → All IsIndex mnemonic → All IsIndex other → Spells (spelling mnemonic) share → Spells (spelling other) found
    → share.extendable ≡ found.extendable → other ≡ mnemonic
one_mnemonic mnemonic other share found i j k places agree all all' spells spells' flag =
    one_valid found.extendable mnemonic other mnemonic i j k places agree (record { same_count = refl; elsewhere = λ p off_i off_j off_k. refl }) all all' all
    (spelled_checksum other found found.extendable all' spells' refl)
    (spelled_checksum mnemonic share found.extendable all spells flag)
