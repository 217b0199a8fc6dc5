-- A line has one answer.
use Rattle.std.proofs.Common.{◌≡◌, ◌≢◌, ℕ, zero, suc, ◌<◌, ◌≤◌, ◌⊎◌, List, length, Option, Some, None, Result, Ok, Err, Ordering}
use Rattle.std.proofs.Common.{refl, sym, ap, ap₂, subst, ◌∙◌, ⊎_elim, arith}
use Rattle.std.specs.Prelude.{MatchOption}
use Rattle.std.specs.Cmp.Lexicographic.{slice_cmp}
use Rattle.std.specs.Ordering.{nat_cmp, ordering_reverse}
use Rattle.std.specs.declared.cmp.Ordering.TheVariants.{Less, Equal, Greater}
use Rattle.std.proofs.lemmas.Bool.{cases_lt}
use Rattle.std.proofs.lemmas.Cmp.{nat_list_cmp_total}
use Rattle.s39_lists.proofs.Finds.{some_same}
use Rattle.s39_words.specs.Reading.{IsWordCount, Reads}
use Rattle.s39_words.specs.Spelling.{words_of, Spells}
use Rattle.s39_words.specs.declared.share.ShareFields.{ShareFields}
use Rattle.s39_words.specs.declared.word_error.WordError.{WordError}
use Rattle.s39_words.specs.declared.word_error.WordError.TheVariants.{BadChecksum as words_BadChecksum, BadPadding as words_BadPadding}
use Rattle.s39_words.specs.declared.word_error.WordError.TheVariants.{GroupThreshold as words_GroupThreshold}
use Rattle.s39_words.proofs.OneReading.{same_reading, same_share}
use Rattle.s39_repair.specs.declared.repaired.Repaired.{Repaired}
use Rattle.s39_repair.specs.declared.repair_error.RepairError.{RepairError}
use Rattle.s39_repair.specs.declared.repair_error.RepairError.TheVariants.{UnknownWord, WordCount, UnreadableWords, NoMnemonic, WrongWord}
use Rattle.s39_repair.specs.declared.repair_error.RepairError.TheVariants.{BadChecksum, BadPadding, GroupThreshold}
use Rattle.s39_repair.specs.Answer.{first_unknown, most_open, AreAll, ComesBefore, IsReadable, IsWhole, IsWrongWord, Repairs, WrongWordIsAt}
use Rattle.s39_repair.specs.Marks.{open_count, spelling, Fits}
use Rattle.s39_repair.proofs.ComesBack.{chosen_once, comes_back}

-- ---- the mnemonics that fit

never_less : (o : Ordering) → o ≡ ordering_reverse o → o ≢ Less
never_less Less e = λ _. cc
never_less Equal e = λ less. cc
never_less Greater e = λ less. cc

pub not_before_itself : (words : List ℕ) → ComesBefore words words → ⊥
not_before_itself words less = never_less (slice_cmp nat_cmp words words) (nat_list_cmp_total.antisymm words words) less

not_both_before : (words others : List ℕ) → ComesBefore words others → ComesBefore others words → ⊥
not_both_before words others less less' =
    let e : slice_cmp nat_cmp others words ≡ Greater = nat_list_cmp_total.antisymm others words ∙ ap ordering_reverse less in
    let both : Less ≡ Greater = sym less' ∙ e in
    cc

module _ (line : List ℕ) where
  same_words : (ws vs : List ℕ) (f g : ShareFields) → Fits line ws f → Fits line vs g → ws ≡ vs → f ≡ g
  same_words ws vs f g p q e = same_share (spelling vs) f g (subst (λ us. Spells (spelling us) f) e p.spells) q.spells

  abbrev Others : List ℕ → Option ShareFields → Type 0
  Others ws second = MatchOption second ((other : List ℕ) (share : ShareFields) → Fits line other share → other ≡ ws)
      (λ s. (last : List ℕ) × Fits line last s × ComesBefore ws last
      × ((other : List ℕ) (share : ShareFields) → Fits line other share → (other ≡ ws) ⊎ (other ≡ last)))

  same_pair : (ws vs : List ℕ) (f g : ShareFields) (r s : Option ShareFields) → Fits line ws f → Fits line vs g → Others ws r → Others vs s
      → (f ≡ g) × (r ≡ s)
  same_pair ws vs f g None None p q a b = (same_words ws vs f g p q (b ws f p), refl)
  same_pair ws vs f g None (Some t) p q a b =
      absurd (not_before_itself ws (subst (λ us. ComesBefore us ws) (a vs g q) (subst (ComesBefore vs) (a b.0 t b.1) b.2)))
  same_pair ws vs f g (Some t) None p q a b =
      absurd (not_before_itself vs (subst (λ us. ComesBefore us vs) (b ws f p) (subst (ComesBefore ws) (b a.0 t a.1) a.2)))
  same_pair ws vs f g (Some t) (Some u) p q a b =
      ⊎_elim
      (λ first. ⊎_elim
      (λ both. absurd (not_before_itself ws (subst (λ us. ComesBefore us ws) first (subst (ComesBefore vs) both b.2))))
      (λ last. (same_words ws vs f g p q (sym first), ap Some (same_words a.0 b.0 t u a.1 b.1 (sym last))))
      (a.3 b.0 u b.1))
      (λ turned. ⊎_elim
      (λ last. absurd (not_both_before ws a.0 a.2 (subst (λ us. ComesBefore us ws) turned (subst (ComesBefore vs) last b.2))))
      (λ both. absurd (not_before_itself a.0 (subst (λ us. ComesBefore us a.0) turned (subst (ComesBefore vs) both b.2))))
      (a.3 b.0 u b.1))
      (a.3 vs g q)

  same_all : (a b : Repaired) → AreAll (Fits line) a → AreAll (Fits line) b → a ≡ b
  same_all a b p q =
      let same = same_pair p.mnemonic q.mnemonic a.first b.first a.second b.second p.first q.first p.others q.others in
      ap₂ (λ f s. record { first = f; second = s }) same.0 same.1

-- ---- the position of a wrong word

same_position : (ws vs : List ℕ) (r s : Option ℕ) → ws ≡ vs → WrongWordIsAt ws r → WrongWordIsAt vs s → r ≡ s
same_position ws vs None None e p q = refl
same_position ws vs None (Some at) e p q = (p at).0 (subst (λ us. IsWrongWord us at) (sym e) ((q at).1 refl))
same_position ws vs (Some at) s e p q = sym ((q at).0 (subst (λ us. IsWrongWord us at) e ((p at).1 refl)))

-- ---- the refusals

-- what is tested in turn, as a number
abbrev stage : RepairError → ℕ
stage (UnknownWord at) = 0
stage (WordCount n) = 1
stage (UnreadableWords n) = 2
stage NoMnemonic = 3
stage (WrongWord at) = 4
stage BadChecksum = 4
stage BadPadding = 5
stage GroupThreshold = 6

abbrev Whole : List ℕ → WordError → Type 0
Whole line e = (words : List ℕ) × IsWhole line words × Reads (spelling words) (Err e)

abbrev whole_error : ℕ → WordError
whole_error zero = words_BadChecksum
whole_error (suc zero) = words_BadPadding
whole_error _ = words_GroupThreshold

abbrev Stage : List ℕ → ℕ → Type 0
Stage line zero = (place : ℕ) × (first_unknown line ≡ Some place)
Stage line (suc zero) = (first_unknown line ≡ None) × (IsWordCount (length (words_of line)) → ⊥)
Stage line (suc (suc zero)) = IsReadable line × (most_open < open_count line)
Stage line (suc (suc (suc zero))) = IsReadable line × (1 ≤ open_count line) × (open_count line ≤ most_open)
Stage line (suc (suc (suc (suc n)))) = Whole line (whole_error n)

stage_is : (line : List ℕ) (e : RepairError) → Repairs line (Err e) → Stage line (stage e)
stage_is line (UnknownWord at) is = (is.0, is.1)
stage_is line (WordCount n) is = (is.0, λ count. is.2 (subst IsWordCount (sym is.1) count))
stage_is line (UnreadableWords n) is = (is.0, omega (arith, is.1, is.2))
stage_is line NoMnemonic is = (is.0, is.1, is.2)
stage_is line (WrongWord at) is = (is.0, is.1, is.2)
stage_is line BadChecksum is = (is.0, is.1, is.2)
stage_is line BadPadding is = is
stage_is line GroupThreshold is = is

known_after : (line : List ℕ) (n : ℕ) → Stage line (suc n) → first_unknown line ≡ None
known_after line zero s = s.0
known_after line (suc zero) s = s.0.known
known_after line (suc (suc zero)) s = s.0.known
known_after line (suc (suc (suc n))) s = s.1.readable.known

count_after : (line : List ℕ) (n : ℕ) → Stage line (suc (suc n)) → IsWordCount (length (words_of line))
count_after line zero s = s.0.count
count_after line (suc zero) s = s.0.count
count_after line (suc (suc n)) s = s.1.readable.count

few_after : (line : List ℕ) (n : ℕ) → Stage line (suc (suc (suc n))) → open_count line ≤ most_open
few_after line zero s = s.2
few_after line (suc n) s = let none = s.1.closed in omega (arith, none)

words_same : (line ws vs : List ℕ) → IsWhole line ws → IsWhole line vs → ws ≡ vs
words_same line ws vs p q = chosen_once (words_of line) ws vs p.closed p.words_are q.words_are

errors_same : (line : List ℕ) (e f : WordError) → Whole line e → Whole line f → e ≡ f
errors_same line e f p q =
    let same = words_same line p.0 q.0 p.1 q.1 in
    let here : Reads (spelling q.0) (Err e) = subst (λ ws. Reads (spelling ws) (Err e)) same p.2 in
    let one : Err e ≡ Err f = same_reading (spelling q.0) (Err e) (Err f) here q.2 in
    cc

errors_apart : (m n : ℕ) → m < n → n ≤ 2 → whole_error m ≡ whole_error n → ⊥
errors_apart zero zero less top e = absurd (omega arith)
errors_apart zero (suc zero) less top e = cc
errors_apart zero (suc (suc n)) less top e = cc
errors_apart (suc m) zero less top e = absurd (omega arith)
errors_apart (suc zero) (suc zero) less top e = absurd (omega arith)
errors_apart (suc zero) (suc (suc n)) less top e = cc
errors_apart (suc (suc m)) n less top e = absurd (omega arith)

-- no line is refused at two stages
not_both : (line : List ℕ) (m n : ℕ) → Stage line m → Stage line n → n ≤ 6 → m < n → ⊥
not_both line zero zero s t top less = absurd (omega arith)
not_both line zero (suc n) s t top less = let none : Some s.0 ≡ None = sym s.1 ∙ known_after line n t in absurd cc
not_both line (suc m) zero s t top less = absurd (omega arith)
not_both line (suc m) (suc zero) s t top less = absurd (omega arith)
not_both line (suc zero) (suc (suc n)) s t top less = absurd (s.1 (count_after line n t))
not_both line (suc (suc m)) (suc (suc zero)) s t top less = absurd (omega arith)
not_both line (suc (suc zero)) (suc (suc (suc n))) s t top less = let few = few_after line n t in absurd (omega (arith, s.1, few))
not_both line (suc (suc (suc m))) (suc (suc (suc zero))) s t top less = absurd (omega arith)
not_both line (suc (suc (suc zero))) (suc (suc (suc (suc n)))) s t top less = let none = t.1.closed in absurd (omega (arith, s.1, none))
not_both line (suc (suc (suc (suc m)))) (suc (suc (suc (suc n)))) s t top less =
    errors_apart m n (omega arith) (omega arith) (errors_same line (whole_error m) (whole_error n) s t)

stage_below : (e : RepairError) → stage e ≤ 6
stage_below (UnknownWord at) = omega arith
stage_below (WordCount n) = omega arith
stage_below (UnreadableWords n) = omega arith
stage_below NoMnemonic = omega arith
stage_below (WrongWord at) = omega arith
stage_below BadChecksum = omega arith
stage_below BadPadding = omega arith
stage_below GroupThreshold = omega arith

stages_same : (line : List ℕ) (e f : RepairError) → Repairs line (Err e) → Repairs line (Err f) → stage e ≡ stage f
stages_same line e f p q =
    let s = stage_is line e p in
    let t = stage_is line f q in
    ⊎_elim
    (λ less. absurd (not_both line (stage e) (stage f) s t (stage_below f) less))
    (λ past. ⊎_elim (λ less. absurd (not_both line (stage f) (stage e) t s (stage_below e) less)) (λ least. omega arith) (cases_lt (stage f) (stage e)))
    (cases_lt (stage e) (stage f))

one_refusal : (line : List ℕ) (e f : RepairError) → Repairs line (Err e) → Repairs line (Err f) → e ≡ f
one_refusal line (UnknownWord at) (UnknownWord other) p q =
    let same : p.0 ≡ q.0 = some_same p.0 q.0 (sym p.1 ∙ q.1) in
    ap UnknownWord (p.2 ∙ ap suc same ∙ sym q.2)
one_refusal line (WordCount m) (WordCount n) p q = ap WordCount (p.1 ∙ sym q.1)
one_refusal line (UnreadableWords m) (UnreadableWords n) p q = ap UnreadableWords (p.1 ∙ sym q.1)
one_refusal line NoMnemonic NoMnemonic p q = refl
one_refusal line (WrongWord at) (WrongWord other) p q =
    ap WrongWord (some_same at other (same_position p.0 q.0 (Some at) (Some other) (words_same line p.0 q.0 p.1 q.1) p.3 q.3))
one_refusal line (WrongWord at) BadChecksum p q =
    let same = same_position p.0 q.0 (Some at) None (words_same line p.0 q.0 p.1 q.1) p.3 q.3 in
    cc
one_refusal line BadChecksum (WrongWord at) p q =
    let same = same_position p.0 q.0 None (Some at) (words_same line p.0 q.0 p.1 q.1) p.3 q.3 in
    cc
one_refusal line BadChecksum BadChecksum p q = refl
one_refusal line BadPadding BadPadding p q = refl
one_refusal line GroupThreshold GroupThreshold p q = refl
one_refusal line e f p q = let same : stage e ≡ stage f = stages_same line e f p q in absurd (omega (arith, same))

-- ---- the answers

from_ok : (line : List ℕ) (a : Repaired) (b : Result Repaired RepairError) → Repairs line (Ok a) → Repairs line b → Ok a ≡ b
from_ok line a b p q =
    let back = comes_back line p.2.mnemonic a.first p.2.first p.1 b q in
    let other : Repairs line (Ok back.0) = subst (Repairs line) back.1 q in
    ap Ok (same_all line a back.0 p.2 other.2) ∙ sym back.1

pub one_answer : (line : List ℕ) (a b : Result Repaired RepairError) → Repairs line a → Repairs line b → a ≡ b
one_answer line (Ok a) b p q = from_ok line a b p q
one_answer line (Err e) (Ok b) p q = sym (from_ok line b (Err e) q p)
one_answer line (Err e) (Err f) p q = ap Err (one_refusal line e f p q)
