-- A drill in a slice, a line at a time.
use Rattle.std.proofs.Common.{◌≡◌, ℕ, suc, ◌+◌, ◌-◌, ◌<◌, ◌≤◌, List, [], ◌++◌, length, take, drop, is_some, false, ◌⊎◌}
use Rattle.std.proofs.Common.{inl, inr, refl, sym, ap, ◌∙◌, subst, append_assoc, append-nil, arith}
use Rattle.std.proofs.Common.{Option, Some, None, Result, Ok, Err, IfOk, IfErr}
use Rattle.std.proofs.lemmas.Bool.{cases_lt}
use Rattle.std.proofs.lemmas.List.{length-append}
use Rattle.s39_words.specs.declared.ShareFields.{ShareFields}
use Rattle.s39_set.specs.Names.{Names}
use Rattle.s39_set.specs.ShareSet.{IsShareSet}
use Rattle.s39_set.specs.Quorums.{IsFirstQuorumAfter, HasNoQuorumAfter}
use Rattle.s39_set.specs.Listing.{IsListing}
use Rattle.s39_kdf.specs.declared.secret_form.SecretForm.{SecretForm}
use Rattle.s39_drilling.specs.declared.listing.Listing.{Listing}
use Rattle.s39_input.specs.declared.slices.TooShort.{TooShort}
use Rattle.s39_input.specs.declared.slices.NoOutput.{NoOutput}
use Rattle.s39_input.specs.declared.slices.NoOutput.TheVariants.{TooShort as SliceTooShort}
use Rattle.s39_input.specs.Steps.{gives}
use Rattle.s39_input.specs.declared.fault.Fault.{Fault}
use Rattle.s39_drilling.specs.declared.drill.Done.{Done}
use Rattle.s39_drilling.specs.Drill.{DrillLaws, last_line, IsDrill, IsNext, StartsAt, WritesDrillOf}
use Rattle.s39_input.specs.Slices.{IsInFront}
use Rattle.s39_drilling.specs.Slices.{Lists, IsLines, more_after, IsTried, DrillFits, FillsSlice, Fills, IsFilling}
use Rattle.s39_input.proofs.Texts.Fronts.{put_at}
use Rattle.s39_drilling.proofs.Drills.Drilling.{drill_ends, drill_step, drill_over}
use Rattle.s39_drilling.proofs.Drills.LinesOfDrills.{no_lines, more_lines, line_of_quorum, lines_and_last}

module _ {form : SecretForm} {set : List ShareFields} {passphrase : List ℕ} (laws : DrillLaws) where
  -- a quorum that is tried is a drill of one quorum, before any other
  tried_then : {after : Option Names} {names : Names} {line last : List ℕ} {next : Option Names} {m : ℕ}
      → IsFirstQuorumAfter set after names → IsTried form set passphrase names line last next m
      → (limit : ℕ) (rest : List ℕ) (more : Option Names) (n : ℕ) → IsDrill form set passphrase (Some names) limit rest more n
      → IsDrill form set passphrase after (1 + limit) (line ++ rest) more (m + n)
  tried_then {after} {names} {line} {last} {next} {m} first t limit rest more n d =
      let one : suc limit ≡ 1 + limit = omega arith in
      subst (λ k. IsDrill form set passphrase after k (line ++ rest) more (m + n)) one
      (rw (t.line_is, t.mismatches_are) (drill_step laws set passphrase after limit names t.outcome rest more n first t.is_outcome d))

  tried_line : {names : Names} {line last : List ℕ} {next : Option Names} {m : ℕ} → IsTried form set passphrase names line last next m → IsLines line 1
  tried_line {names} t = subst (λ l. IsLines l 1) (sym t.line_is) (line_of_quorum form (names, t.outcome))

  module _ (is : IsShareSet set) where
    -- alone
    tried_alone : {after : Option Names} {names : Names} {line last : List ℕ} {next : Option Names} {m : ℕ}
        → IsFirstQuorumAfter set after names → IsTried form set passphrase names line last next m
        → IsDrill form set passphrase after 1 line (more_after names next) m
    tried_alone {after} {names} {line} {last} {next} {m} first t =
        let over = drill_over laws set passphrase is names next 0 t.is_next (inl refl) in
        let d = tried_then first t 0 [] (more_after names next) 0 over in
        let count : m + 0 ≡ m = omega arith in
        subst (λ n. IsDrill form set passphrase after 1 line (more_after names next) n) count
        (subst (λ l. IsDrill form set passphrase after 1 l (more_after names next) (m + 0)) (append-nil line) d)

    -- the first line doesn't fit
    pub first_too_long : {after : Option Names} {names : Names} {line last : List ℕ} {next : Option Names} {m : ℕ} (room needed : ℕ)
        → IsFirstQuorumAfter set after names → IsTried form set passphrase names line last next m
        → needed ≡ length line + length last → room < needed
        → (lines : List ℕ) × (more : Option Names) × (mismatches : ℕ) × IsDrill form set passphrase after 1 lines more mismatches
        × (needed ≡ length (lines ++ last_line more)) × (room < length (lines ++ last_line more))
    first_too_long {after} {names} {line} {last} {next} {m} room needed first t is_needed short =
        let same : needed ≡ length (line ++ last_line (more_after names next)) =
        is_needed ∙ ap (λ l. length line + length l) t.last_is ∙ sym (length-append line (last_line (more_after names next))) in
        (line, more_after names next, m, tried_alone first t, same, subst (λ n. room < n) same short)

  module _ {start : Names} {old : List ℕ} where
    -- the first line stands in the slice
    pub filling_starts : {new line last : List ℕ} {written : ℕ} {next : Option Names} {m : ℕ} → IsTried form set passphrase start line last next m
        → new ≡ take 0 old ++ line ++ drop written old → written ≡ length line → written + length last ≤ length old
        → IsFilling form set passphrase start 1 old new last written next m
    filling_starts {new} {line} {last} {written} {next} {m} t put at fits = record {
      lines = line;
      reached = start;
      bytes = put ∙ ap (λ n. line ++ drop n old) at;
      written_is = at;
      are_lines = tried_line t;
      fits = fits;
      is_next = t.is_next;
      last_is = t.last_is;
      less_fits = λ after first n some less. absurd (omega (arith, some, less));
      goes_on = λ after first limit rest more n d. tried_then first t limit rest more n d;
    }

    module _ (is : IsShareSet set) {listed : ℕ} {new last : List ℕ} {written m : ℕ} where
      -- what stands there is the drill up to here, and fits with its last line
      so_far : {next : Option Names} (f : IsFilling form set passphrase start listed old new last written next m) (left : ℕ)
          → (left ≡ 0) ⊎ (is_some next ≡ false) → (given : Option Names) → IsFirstQuorumAfter set given start
          → IsDrill form set passphrase given (listed + left) f.lines (more_after f.reached next) m
      so_far {next} f left over given first =
          let d = f.goes_on given first left [] (more_after f.reached next) 0 (drill_over laws set passphrase is f.reached next left f.is_next over) in
          let same : m + 0 ≡ m = omega arith in
          subst (λ n. IsDrill form set passphrase given (listed + left) f.lines (more_after f.reached next) n) same
          (subst (λ l. IsDrill form set passphrase given (listed + left) l (more_after f.reached next) (m + 0)) (append-nil f.lines) d)

      size_so_far : {next : Option Names} (f : IsFilling form set passphrase start listed old new last written next m)
          → length (f.lines ++ last_line (more_after f.reached next)) ≡ written + length last
      size_so_far {next} f =
          length-append f.lines (last_line (more_after f.reached next)) ∙ sym (ap (λ l. length f.lines + length l) f.last_is)
          ∙ ap (λ k. k + length last) (sym f.written_is)

      fits_so_far : {next : Option Names} (f : IsFilling form set passphrase start listed old new last written next m) (left : ℕ)
          → (left ≡ 0) ⊎ (is_some next ≡ false) → (given : Option Names) → IsFirstQuorumAfter set given start
          → DrillFits form set passphrase given (listed + left) (length old)
      fits_so_far {next} f left over given first =
          let size = size_so_far f in
          let room = f.fits in
          (f.lines, more_after f.reached next, m, so_far f left over given first, omega (arith, size, room))

      -- one more line stands there
      pub filling_goes_on : {quorum : Names} → IsFilling form set passphrase start listed old new last written (Some quorum) m
          → {after line end : List ℕ} {next : Option Names} {at n : ℕ} → IsTried form set passphrase quorum line end next n
          → at ≡ written + length line
          → after ≡ take written new ++ line ++ drop at new → at + length end ≤ length old
          → IsFilling form set passphrase start (listed + 1) old after end at next (m + n)
      filling_goes_on {quorum} f {after} {line} {end} {next} {at} {n} t is_at put fits = record {
        lines = f.lines ++ line;
        reached = quorum;
        bytes = put_at f.lines line old new after written f.bytes f.written_is
            (subst (λ k. after ≡ take written new ++ line ++ drop k new) is_at put);
        written_is = is_at ∙ ap (λ k. k + length line) f.written_is ∙ sym (length-append f.lines line);
        are_lines = more_lines f.are_lines (tried_line t);
        fits = fits;
        is_next = t.is_next;
        last_is = t.last_is;
        less_fits = λ given first k some less.
            elim (cases_lt k listed) [
              | inl below ↦ f.less_fits given first k some below
              | inr above ↦
                  let here : listed + 0 ≡ k = omega (arith, less, above) in
                  subst (λ i. DrillFits form set passphrase given i (length old)) here (fits_so_far f 0 (inl refl) given first)
            ];
        goes_on = λ given first limit rest more k d.
            let later = tried_then f.is_next t limit rest more k d in
            let whole = f.goes_on given first (1 + limit) (line ++ rest) more (n + k) later in
            let places : listed + (1 + limit) ≡ (listed + 1) + limit = omega arith in
            let count : m + (n + k) ≡ (m + n) + k = omega arith in
            subst (λ i. IsDrill form set passphrase given i ((f.lines ++ line) ++ rest) more ((m + n) + k)) places
            (subst (λ i. IsDrill form set passphrase given (listed + (1 + limit)) ((f.lines ++ line) ++ rest) more i) count
            (subst (λ l. IsDrill form set passphrase given (listed + (1 + limit)) l more (m + (n + k))) (sym (append_assoc f.lines line rest)) whole));
      }

      module _ {after : List ℕ} {listing : Listing}
          (put : after ≡ take written new ++ last ++ drop (written + length last) new) (written_is : listing.written ≡ written + length last)
          (listed_is : listing.listed ≡ listed) (last_is : listing.last ≡ written) (count : listing.mismatches ≡ m) where
        in_front : {next : Option Names} (f : IsFilling form set passphrase start listed old new last written next m)
            → IsInFront (f.lines ++ last_line (more_after f.reached next)) old after
        in_front f =
            let size = size_so_far f in
            record {
              fits = let room = f.fits in omega (arith, size, room);
              bytes = subst (λ l. after ≡ (f.lines ++ l) ++ drop (length (f.lines ++ l)) old) f.last_is
                  (put_at f.lines last old new after written f.bytes f.written_is put);
            }

        stopped : {next : Option Names} (f : IsFilling form set passphrase start listed old new last written next m) (left : ℕ)
            → (left ≡ 0) ⊎ (is_some next ≡ false)
            → (given : Option Names) → IsFirstQuorumAfter set given start
            → IsDrill form set passphrase given (listed + left) f.lines (more_after f.reached next) listing.mismatches
        stopped {next} f left over given first =
            subst (λ n. IsDrill form set passphrase given (listed + left) f.lines (more_after f.reached next) n) (sym count)
            (so_far f left over given first)

        -- the limit is reached, or no quorum is left
        pub filled : {next : Option Names} → IsFilling form set passphrase start listed old new last written next m → (limit left : ℕ) → 1 ≤ listed
            → listed + left ≡ limit → (left ≡ 0) ⊎ (is_some next ≡ false)
            → (given : Option Names) → IsFirstQuorumAfter set given start → FillsSlice form set passphrase given limit old after listing
        filled {next} f limit left some sum over given first = record {
          listed = limit;
          lines = f.lines;
          more = more_after f.reached next;
          some = omega (arith, some, sum);
          few = omega arith;
          drill = subst (λ n. IsDrill form set passphrase given n f.lines (more_after f.reached next) listing.mismatches) sum
              (stopped f left over given first);
          in_front = in_front f;
          written = written_is ∙ sym (size_so_far f);
          are_lines = subst (IsLines f.lines) (sym listed_is) f.are_lines;
          last = last_is ∙ f.written_is;
          less_fits = λ n n_some less.
              elim (cases_lt n listed) [
                | inl below ↦ f.less_fits given first n n_some below
                | inr above ↦
                    let none : is_some next ≡ false = elim over [
                      | inl zero ↦ absurd (omega (arith, zero, less, above, sum))
                      | inr none ↦ none
                    ] in
                    let here : listed + (n - listed) ≡ n = omega (arith, above) in
                    subst (λ i. DrillFits form set passphrase given i (length old)) here (fits_so_far f (n - listed) (inr none) given first)
              ];
          more_is_too_long = λ below. absurd (omega (arith, below));
        }

        -- the next line doesn't fit
        pub filled_early : {quorum : Names} → IsFilling form set passphrase start listed old new last written (Some quorum) m
            → {line end : List ℕ} {then : Option Names} {n : ℕ} (limit : ℕ) → IsTried form set passphrase quorum line end then n
            → length old < (written + length line) + length end → 1 ≤ listed → listed ≤ limit
            → (given : Option Names) → IsFirstQuorumAfter set given start → FillsSlice form set passphrase given limit old after listing
        filled_early {quorum} f {line} {end} {then} {n} limit t short some few given first = record {
          listed = listed;
          lines = f.lines;
          more = Some f.reached;
          some = some;
          few = few;
          drill =
              let none : listed + 0 ≡ listed = omega arith in
              subst (λ k. IsDrill form set passphrase given k f.lines (Some f.reached) listing.mismatches) none
              (stopped f 0 (inl refl) given first);
          in_front = in_front f;
          written = written_is ∙ sym (size_so_far f);
          are_lines = subst (IsLines f.lines) (sym listed_is) f.are_lines;
          last = last_is ∙ f.written_is;
          less_fits = f.less_fits given first;
          more_is_too_long = λ below.
              let alone = tried_alone is f.is_next t in
              let whole = f.goes_on given first 1 line (more_after quorum then) n alone in
              let size : length ((f.lines ++ line) ++ last_line (more_after quorum then)) ≡ (written + length line) + length end =
              length-append (f.lines ++ line) (last_line (more_after quorum then))
              ∙ ap (λ k. k + length (last_line (more_after quorum then))) (length-append f.lines line)
              ∙ ap (λ k. (k + length line) + length (last_line (more_after quorum then))) (sym f.written_is)
              ∙ ap (λ l. (written + length line) + length l) (sym t.last_is) in
              (f.lines ++ line, more_after quorum then, m + n, whole, omega (arith, size, short));
        }

-- what is answered of a drill in a slice
abbrev pub answered : Result Listing TooShort → Result Listing NoOutput
answered (Ok listing) = Ok listing
answered (Err short) = Err (SliceTooShort short)

module _ (none : (set : List ShareFields) (given : Option Names) (limit : ℕ) → HasNoQuorumAfter set given → IsListing set given limit [])
    (form : SecretForm) (passphrase : List ℕ) (after : Option Names) (set : List ShareFields)
    (next : Option Names) (starts : StartsAt set after next) (limit : ℕ) (old new : List ℕ) where
  -- the set is drilled so
  abbrev Writes : ℕ → List ℕ → Result Done Fault → Type 0
  Writes n text answer = WritesDrillOf form passphrase after n set (text, answer)

  output : (listed : ℕ) (lines : List ℕ) (more : Option Names) (m : ℕ) → IsDrill form set passphrase after listed lines more m
      → Writes listed (lines ++ last_line more) (Ok (record { mismatches = m }))
  output listed lines more m d = gives tt (starts.no_lack, starts.cursor) (lines, more, m, d, refl)

  lists : (result : Result Listing TooShort) → Fills form set passphrase after limit old new result
      → Lists Writes limit old new (answered result)
  lists (Ok listing) f = record {
    listed = f.listed;
    text = f.lines ++ last_line f.more;
    some = f.some;
    few = f.few;
    output = output f.listed f.lines f.more listing.mismatches f.drill;
    in_front = f.in_front;
    written = f.written;
    lines = (lines_and_last f.are_lines f.more).0;
    last = f.last ∙ (lines_and_last f.are_lines f.more).1;
    less_fits = λ n some less. let (lines, more, m, d, fits) = f.less_fits n some less in (lines ++ last_line more, m, output n lines more m d, fits);
    more_is_too_long = λ below.
        let (longer, rest, m, d, long) = f.more_is_too_long below in (longer ++ last_line rest, m, output (f.listed + 1) longer rest m d, long);
  }
  lists (Err short) f =
      let ((lines, more, m, d, needed, long), same) = f in ((lines ++ last_line more, m, output 1 lines more m d, needed, long), same)

  -- the drill from this quorum on is that of the set
  pub fills_lists : (start : Names) → next ≡ Some start → (result : Result Listing TooShort)
      → ((given : Option Names) → IsFirstQuorumAfter set given start → Fills form set passphrase given limit old new result)
      → Lists Writes limit old new (answered result)
  fills_lists start is result fills = lists result (fills after (subst (IsNext set after) is starts.starts))

  -- no quorum is left
  pub end_lists : next ≡ None → 1 ≤ limit → (result : Result Listing TooShort)
      → IfOk result (λ listing. IsInFront (last_line None) old new × (listing.written ≡ length (last_line None)) × (listing.listed ≡ 0)
      × (listing.last ≡ 0) × (listing.mismatches ≡ 0))
      → IfErr result (λ short. (short.needed ≡ length (last_line None)) × (length old < length (last_line None)) × (new ≡ old))
      → Lists Writes limit old new (answered result)
  end_lists is some (Ok listing) ok err = let over : HasNoQuorumAfter set after = subst (IsNext set after) is starts.starts in record {
    listed = limit;
    text = last_line None;
    some = some;
    few = omega arith;
    output = subst (λ m. Writes limit (last_line None) (Ok (record { mismatches = m }))) (sym ok.4)
        (output limit [] None 0 (drill_ends set passphrase after limit (none set after limit over) over));
    in_front = ok.0;
    written = ok.1;
    lines = ap (λ n. n + 1) ok.2 ∙ (lines_and_last no_lines None).0;
    last = ok.3 ∙ (lines_and_last no_lines None).1;
    less_fits = λ n _ _. (last_line None, 0, output n [] None 0 (drill_ends set passphrase after n (none set after n over) over), ok.0.fits);
    more_is_too_long = λ below. absurd (omega (arith, below));
  }
  end_lists is some (Err short) ok err =
      let over : HasNoQuorumAfter set after = subst (IsNext set after) is starts.starts in
      ((last_line None, 0, output 1 [] None 0 (drill_ends set passphrase after 1 (none set after 1 over) over), err.0, err.1), err.2)
