-- A run over lines, as bytes come.
use Rattle.std.proofs.Common.{◌≡◌, ℕ, ◌+◌, ◌-◌, ◌^◌, min, ◌<◌, ◌≤◌, Bool, true, false, List, [], ◌∷◌, ◌++◌, length}
use Rattle.std.proofs.Common.{subst, subst₂, suc, refl, sym, ap, ◌∙◌, ◌⊎◌, inl, inr, append_assoc, arith, Option, Result, Ok, Err}
use Rattle.std.proofs.Common.{OnOk, IfErr}
use Rattle.std.proofs.lemmas.List.{append-nil, length-append}
use Rattle.std.specs.Prelude.{◌≢◌, All}
use Rattle.std.specs.Io.KnownBytes.{Consumes}
use Rattle.s39_input.specs.declared.fault.RefusedLine.{RefusedLine}
use Rattle.s39_input.specs.declared.fault.Stop.{Stop}
use Rattle.s39_input.specs.declared.fault.Stop.TheVariants.{AtLine, ReadFailed}
use Rattle.s39_input.specs.Device.{Counted}
use Rattle.s39_input.specs.Input.{longest_line, parts_of, finished_parts}
use Rattle.s39_input.specs.Fault.{line_number}
use Rattle.s39_input.specs.Midway.{TakesLines, RunsOn, RunsOver, IsMidway, StopsWithin, ReachesOrStops}
use Rattle.s39_input.proofs.Taking.PartsBetweenLineFeeds.{parts_of-more, parts_of-part, parts_of-onto, first_part, finished_parts-keeps, finished_parts-drops}

module _ {S C : Type 0} (takes : S → List ℕ → Result (Unit {0}) C → S → Type 0) where
  -- one more line is taken
  TakesLines-more : (lines : List (List ℕ)) (line : List ℕ) (old mid new : S) → TakesLines takes lines old mid → takes mid line (Ok tt) new
      → TakesLines takes (lines ++ line ∷ []) old new
  TakesLines-more [] line old mid new p t = (new, subst (λ s. takes s line (Ok tt) new) (sym p) t, refl)
  TakesLines-more (x ∷ lines) line old mid new p t = (p.0, p.1, TakesLines-more lines line p.0 mid new p.2 t)

  -- a run goes on behind lines that are taken
  runs_on : (ended : Bool) (n k : ℕ) (lines more : List (List ℕ)) (old mid new : S) (answer : Result (Unit {0}) (Stop C)) → k ≡ length lines + n
      → TakesLines takes lines old mid → RunsOn takes ended k more mid new answer → RunsOn takes ended n (lines ++ more) old new answer
  runs_on ended n k [] more old mid new answer count same rest =
      let first : k ≡ n = omega (arith, count) in
      subst₂ (λ (j : ℕ) (s : S). RunsOn takes ended j more s new answer) first (sym same) rest
  runs_on ended n k (line ∷ lines) more old mid new answer count (next, here, later) rest =
      inl (next, here, runs_on ended (suc n) k lines more next mid new answer (omega (arith, count)) later rest)

  -- and stops at a line that is refused
  stops_at : (ended : Bool) (lines : List (List ℕ)) (line : List ℕ) (after : List (List ℕ)) (refused : RefusedLine C) (old mid new : S)
      → TakesLines takes lines old mid → takes mid line (Err refused.refusal) new → refused.number ≡ line_number (length lines)
      → RunsOn takes ended 0 (lines ++ line ∷ after) old new (Err (AtLine refused))
  stops_at ended lines line after refused old mid new t r n =
      runs_on ended 0 (length lines) lines (line ∷ after) old mid new (Err (AtLine refused)) (omega arith) t
      (inr (refused.refusal, r, ap (λ (k : ℕ). Err (AtLine (record { number = k; refusal = refused.refusal }))) (sym n)))

  -- if a line feed ended that line, or if it is too long, this holds whatever follows
  stops : (bytes : List ℕ) (ended : Bool) (lines : List (List ℕ)) (line : List ℕ) (after : List (List ℕ)) (refused : RefusedLine C) (old mid new : S)
      → parts_of bytes ≡ lines ++ line ∷ after → (0 < length after) ⊎ (longest_line < length line)
      → TakesLines takes lines old mid → takes mid line (Err refused.refusal) new → refused.number ≡ line_number (length lines)
      → RunsOver takes (record { bytes = bytes; ended = ended }) old new (Err (AtLine refused))
  stops bytes true lines line after refused old mid new e whole t r n =
      subst (λ ls. RunsOn takes true 0 ls old new (Err (AtLine refused))) (sym e) (stops_at true lines line after refused old mid new t r n)
  stops bytes false lines line after refused old mid new e whole t r n =
      let kept = finished_parts-keeps lines line after whole in
      subst (λ ls. RunsOn takes false 0 ls old new (Err (AtLine refused))) (sym (ap finished_parts e ∙ kept.1))
      (stops_at false lines line kept.0 refused old mid new t r n)

  -- ---- one byte more

  pub midway_at_start : (s : S) → IsMidway takes [] [] 1 s s
  midway_at_start s = record { lines = []; taken = refl; parts = refl; short = omega arith; number_is = refl }

  -- a line feed ends the line
  pub midway_after_line : (came u : List ℕ) (number next : ℕ) (old mid new : S) → IsMidway takes came u number old mid → takes mid u (Ok tt) new
      → next ≡ min (number + 1) (2 ^ 64 - 1) → IsMidway takes (came ++ 10 ∷ []) [] next old new
  midway_after_line came u number next old mid new m t n = record {
    lines = m.lines ++ u ∷ [];
    taken = TakesLines-more m.lines u old mid new m.taken t;
    parts = parts_of-more came (10 ∷ []) m.lines u [] ([] ∷ []) m.parts refl ∙ rw append-nil (sym (append_assoc m.lines (u ∷ []) ([] ∷ [])));
    short = omega arith;
    number_is = let l = length-append m.lines (u ∷ []) in let i = m.number_is in rw l (omega arith);
  }

  -- a part that no line feed is in goes onto it
  pub midway_after_part : (came u part : List ℕ) (number : ℕ) (old new : S) → IsMidway takes came u number old new → All (λ b. b ≢ 10) part
      → length u + length part ≤ longest_line
      → IsMidway takes (came ++ part) (u ++ part) number old new
  midway_after_part came u part number old new m free room = record {
    lines = m.lines;
    taken = m.taken;
    parts = parts_of-more came part m.lines u part [] m.parts (parts_of-part part free);
    short = rw length-append room;
    number_is = m.number_is;
  }

  -- the line that a line feed ends is refused
  pub stops_after_line : (came u : List ℕ) (refused : RefusedLine C) (number : ℕ) (old mid new : S) → IsMidway takes came u number old mid
      → takes mid u (Err refused.refusal) new → refused.number ≡ number → StopsWithin takes (came ++ 10 ∷ []) old new refused
  stops_after_line came u refused number old mid new m r n rest ended =
      let first = first_part rest in
      let parts : parts_of (came ++ (10 ∷ rest)) ≡ m.lines ++ (u ++ []) ∷ parts_of rest =
      parts_of-more came (10 ∷ rest) m.lines u [] (parts_of rest) m.parts refl in
      let line : parts_of (came ++ (10 ∷ rest)) ≡ m.lines ++ u ∷ parts_of rest = rw append-nil at parts in
      let some : 0 < length (parts_of rest) = rw first.2 (omega arith) in
      rw append_assoc (stops (came ++ (10 ∷ rest)) ended m.lines u (parts_of rest) refused old mid new line (inl some) m.taken r (n ∙ m.number_is))

  -- a part that makes the line longer than the longest stops the run, whatever follows
  pub stops_too_long : (came u part : List ℕ) (number : ℕ) (refused : RefusedLine C) (old new : S) → IsMidway takes came u number old new
      → All (λ b. b ≢ 10) part
      → longest_line < length u + length part → ((line : List ℕ) → longest_line < length line → takes new line (Err refused.refusal) new)
      → refused.number ≡ number
      → StopsWithin takes (came ++ part) old new refused
  stops_too_long came u part number refused old new m free full refuses n rest ended =
      let first = first_part rest in
      let line = u ++ (part ++ first.0) in
      let parts : parts_of (came ++ (part ++ rest)) ≡ m.lines ++ line ∷ first.1 =
      parts_of-more came (part ++ rest) m.lines u (part ++ first.0) first.1 m.parts (parts_of-onto part rest first.0 first.1 free first.2) in
      let long : longest_line < length line = rw (length-append u (part ++ first.0), length-append part first.0) (omega arith) in
      rw append_assoc (stops (came ++ (part ++ rest)) ended m.lines line first.1 refused old new new parts (inr long) m.taken (refuses line long)
      (n ∙ m.number_is))

  -- what stops the run stops it whatever comes besides
  pub stops_further : (came more : List ℕ) (refused : RefusedLine C) (old new : S) → StopsWithin takes came old new refused
      → StopsWithin takes (came ++ more) old new refused
  stops_further came more refused old new h rest ended =
      subst (λ bytes. RunsOver takes (record { bytes = bytes; ended = ended }) old new (Err (AtLine refused))) (sym (append_assoc came more rest))
      (h (more ++ rest) ended)

  -- what is left of the line once a line feed after a part of it ended it
  pub reaches_after_part : (came part u next_u : List ℕ) (number next : ℕ) (answer : Result (Unit {0}) (RefusedLine C)) (old mid new : S)
      → OnOk answer (takes mid u (Ok tt) new) → OnOk answer (next ≡ min (number + 1) (2 ^ 64 - 1))
      → IfErr answer (λ refused. takes mid u (Err refused.refusal) new × (refused.number ≡ number)) → next_u ≡ []
      → IsMidway takes (came ++ part) u number old mid → ReachesOrStops takes (came ++ part ++ 10 ∷ []) next_u next old new answer
  reaches_after_part came part u next_u number next (Ok _) old mid new t n r e m = rw e (midway_after_line (came ++ part) u number next old mid new m t n)
  reaches_after_part came part u next_u number next (Err refused) old mid new t n r e m = stops_after_line (came ++ part) u refused number old mid new m r.0 r.1

  -- what stops the run within a piece stops it within the whole piece
  pub stops_in_piece : (came piece begun rest : List ℕ) (refused : RefusedLine C) (old new : S) → piece ≡ begun ++ rest
      → StopsWithin takes (came ++ begun) old new refused
      → StopsWithin takes (came ++ piece) old new refused
  stops_in_piece came piece begun rest refused old new e h =
      subst (λ bytes. StopsWithin takes bytes old new refused) (append_assoc came begun rest ∙ ap (λ bytes. came ++ bytes) (sym e))
      (stops_further (came ++ begun) rest refused old new h)

  -- the input ended: its last line is taken as it is, or refused
  pub runs_to_end : (came u : List ℕ) (number : ℕ) (old mid new : S) → IsMidway takes came u number old mid → takes mid u (Ok tt) new
      → RunsOver takes (record { bytes = came; ended = true }) old new (Ok tt)
  runs_to_end came u number old mid new m t =
      subst (λ ls. RunsOn takes true 0 ls old new (Ok tt)) (sym m.parts)
      (runs_on true 0 (length m.lines) m.lines (u ∷ []) old mid new (Ok tt) (omega arith) m.taken (inl (new, t, (refl, refl))))

  -- the input ended: its last line is refused
  pub runs_to_refusal : (came u : List ℕ) (number : ℕ) (refused : RefusedLine C) (old mid new : S) → IsMidway takes came u number old mid
      → takes mid u (Err refused.refusal) new → refused.number ≡ number
      → RunsOver takes (record { bytes = came; ended = true }) old new (Err (AtLine refused))
  runs_to_refusal came u number refused old mid new m r n =
      subst (λ ls. RunsOn takes true 0 ls old new (Err (AtLine refused))) (sym m.parts)
      (stops_at true m.lines u [] refused old mid new m.taken r (n ∙ m.number_is))

  -- a read failed: the unfinished line is dropped
  pub runs_to_failure : (came u : List ℕ) (number : ℕ) (old new : S) → IsMidway takes came u number old new
      → RunsOver takes (record { bytes = came; ended = false }) old new (Err ReadFailed)
  runs_to_failure came u number old new m =
      subst (λ ls. RunsOn takes false 0 ls old new (Err ReadFailed))
      (append-nil m.lines ∙ sym (ap finished_parts m.parts ∙ finished_parts-drops m.lines u m.short))
      (runs_on false 0 (length m.lines) m.lines [] old new new (Err ReadFailed) (omega arith) m.taken (refl, refl))

-- between two reads of a run: what came of the first reader's bytes, and what is taken of it
pub record IsReading {S C D : Type 0} (takes : S → List ℕ → Result (Unit {0}) C → S → Type 0) (can_take : S → Type 0) (remaining : D → Option (List ℕ))
    (first reader : Counted D) (unfinished : List ℕ) (number : ℕ) (old new : S) (piece : List ℕ) : Type 0 where
  pub came : List ℕ
  pub consumed : Consumes (remaining first.device) (remaining reader.device) came
  pub midway : IsMidway takes came unfinished number old new
  pub ready : can_take new
  pub no_failure : reader.failures ≡ first.failures
  pub more_reads : first.reads ≤ reader.reads
  pub few_reads : reader.reads ≤ first.reads + length came
  pub room : 0 < length piece
