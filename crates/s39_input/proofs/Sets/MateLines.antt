-- Lines of one backup have the shares that they hold for mates; and a judged line that is taken behind the others leads to its set.
use Rattle.std.proofs.Common.{◌≡◌, ℕ, suc, Bool, true, false, cond, List, [], ◌∷◌, ◌++◌, All, refl, sym, ap, ◌∙◌, Option, Some, None, Result, Ok, Err}
use Rattle.std.specs.List.{onto_first}
use Rattle.std.proofs.lemmas.List.Elements.{All-head, All-tail}
use Rattle.s39_lists.proofs.Each.{then_gives}
use Rattle.s39_lists.specs.Each.{and_then}
use Rattle.s39_words.specs.declared.ShareFields.{ShareFields}
use Rattle.s39_input.specs.declared.fault.LineRefusal.{LineRefusal}
use Rattle.s39_input.specs.declared.judging.Judged.{Judged}
use Rattle.s39_input.specs.Input.{whole, lines_of, parts_of, is_line_feed}
use Rattle.s39_input.specs.Lines.{Holds, share_in, at_line, led}
use Rattle.s39_input.specs.Accepted.{IsReadAs, read_as, joined, with_held, with_line}
use Rattle.s39_input.specs.Judging.{mate_in, with_mate, mates, judgement}
use Rattle.s39_input.proofs.Sets.Judgements.{is_judged}
use Rattle.s39_input.proofs.Sets.Mates.{own_mate}
use Rattle.s39_input.proofs.Taking.PartsBetweenLineFeeds.{first_part}

-- ---- lines of one backup

abbrev pub HoldsMate : ℕ → List ℕ → Type 0
HoldsMate id line = (share : ShareFields) → Holds line (Some share) → share.id ≡ id

mate_line : (id : ℕ) (set : List ShareFields) (line : List ℕ) → HoldsMate id line → with_mate id set line ≡ with_line set line
mate_line id set line own = by (share_in line) refl where
  by : (said : Result (Option ShareFields) LineRefusal) → share_in line ≡ said
      → and_then (λ held. with_held set (mate_in id held)) said ≡ and_then (with_held set) said
  by (Err refusal) says = refl
  by (Ok None) says = refl
  by (Ok (Some share)) says = ap (with_held set) (own_mate id share (own share says))

mate_lines : (id n : ℕ) (set : List ShareFields) (lines : List (List ℕ)) → All (HoldsMate id) lines
    → led with_line true n set lines ≡ led (with_mate id) true n set lines
mate_lines id n set [] own = refl
mate_lines id n set (line ∷ lines) own =
    ap (λ r. and_then (λ t. led with_line true (suc n) t lines) (at_line n r)) (sym (mate_line id set line (All-head (HoldsMate id) line lines own)))
    ∙ by (λ next. mate_lines id (suc n) next lines (All-tail (HoldsMate id) line lines own)) (with_mate id set line)
  where
    by : ((next : List ShareFields) → led with_line true (suc n) next lines ≡ led (with_mate id) true (suc n) next lines)
        → (taken : Result (List ShareFields) LineRefusal)
        → and_then (λ t. led with_line true (suc n) t lines) (at_line n taken)
        ≡ and_then (λ t. led (with_mate id) true (suc n) t lines) (at_line n taken)
    by later (Err refusal) = refl
    by later (Ok next) = later next

pub mates_read : (id : ℕ) (lines : List ℕ) → All (HoldsMate id) (lines_of (whole lines)) → IsReadAs (whole lines) (mates id lines)
unfolding read_as mates
mates_read id lines own = mate_lines id 0 [] (lines_of (whole lines)) own

-- ---- a line behind others

onto_front : (feed : Bool) (x : ℕ) (first : List ℕ) (others parts whole more : List (List ℕ)) → parts ≡ first ∷ others → whole ≡ parts ++ more
    → cond feed ([] ∷ whole) (onto_first x whole) ≡ cond feed ([] ∷ parts) (onto_first x parts) ++ more
onto_front true x first others parts whole more is all = ap (λ (l : List (List ℕ)). [] ∷ l) all
onto_front false x first others parts whole more is all = rw (all, is) refl

parts_behind : (bytes line : List ℕ) → parts_of (bytes ++ 10 ∷ line) ≡ parts_of bytes ++ parts_of line
parts_behind [] line = refl
parts_behind (x ∷ bytes) line =
    let (first, others, is) = first_part bytes in
    onto_front (is_line_feed x) x first others (parts_of bytes) (parts_of (bytes ++ 10 ∷ line)) (parts_of line) is (parts_behind bytes line)

-- more lines lead on from where lines led
led_on : {S C : Type 0} (step : S → List ℕ → Result S C) (n : ℕ) (s t : S) (lines more : List (List ℕ)) → led step true n s lines ≡ Ok t
    → (k : ℕ) × (led step true n s (lines ++ more) ≡ led step true k t more)
led_on step n s t [] more leads = let same : s ≡ t = cc in (n, ap (λ s. led step true n s more) same)
led_on step n s t (line ∷ lines) more leads =
    let first = then_gives (λ u. led step true (suc n) u lines) (at_line n (step s line)) t leads in
    let (k, on) = led_on step (suc n) first.a t lines more first.then_is in
    (k, ap (and_then (λ u. led step true (suc n) u (lines ++ more))) first.first_is ∙ on)

pub judged_taken : (lines line : List ℕ) (judged : Judged) → judgement lines line ≡ Ok judged → Holds line (Some judged.share)
    → lines_of (whole line) ≡ line ∷ [] → mates judged.share.id (lines ++ 10 ∷ line) ≡ Ok judged.set
unfolding mates
judged_taken lines line judged is holds one =
    let j = is_judged lines line judged is in
    let share = judged.share in
    let id = share.id in
    let taken : with_mate id j.before line ≡ Ok judged.set =
    ap (and_then (λ held. with_held j.before (mate_in id held))) holds ∙ ap (with_held j.before) (own_mate id share refl)
    ∙ ap (joined j.before share) j.joins ∙ ap Ok j.set_is in
    let (k, on) = led_on (with_mate id) 0 [] j.before (parts_of lines) (line ∷ []) j.led in
    ap (led (with_mate id) true 0 []) (parts_behind lines line ∙ ap (λ ps. parts_of lines ++ ps) one)
    ∙ on ∙ ap (λ r. and_then (λ t. led (with_mate id) true (suc k) t []) (at_line k r)) taken
