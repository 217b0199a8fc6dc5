-- What a work says itself, by its run.
use Rattle.std.proofs.Common.{◌≡◌, ◌≢◌, ◌⊎◌, ◌+◌, ℕ, Bool, IfErr, IfOk, arith, inl, inr, List, [], Option, Some, None, Result, Ok, Err, ap, refl, length, subst, sym}
use Rattle.clap.specs.Words.{Text}
use Rattle.s39_words.specs.declared.ShareFields.{ShareFields}
use Rattle.s39_set.specs.Listing.{IsListing}
use Rattle.s39_set.specs.Names.{Names}
use Rattle.s39_input.specs.declared.fault.DeviceFailure.TheVariants.{Read, Write}
use Rattle.s39_input.specs.declared.fault.Fault.{Fault}
use Rattle.s39_input.specs.declared.fault.Refusal.{Refusal}
use Rattle.s39_input.specs.declared.fault.Refusal.TheVariants.{Device}
use Rattle.s39_input.specs.Device.{Counted}
use Rattle.s39_input.specs.Fault.{read_failures, write_failures_in}
use Rattle.s39_input.specs.Input.{Input, whole}
use Rattle.s39_input.specs.Runs.{OfInput}
use Rattle.s39_input.proofs.Runs.Devices.{some_input as some_read}
use Rattle.s39_drilling.specs.declared.drill.Done.{Done}
use Rattle.s39_drilling.specs.Watching.{AreSeen, SeesAll, SeesFirst}
use Rattle.s39_cli.specs.declared.person.Person.{Person}
use Rattle.s39_cli.specs.declared.person.Terminals.{Terminals}
use Rattle.s39_cli.specs.declared.work.Work.{Work}
use Rattle.s39_cli.specs.declared.work.Drill.{Drill}
use Rattle.s39_cli.specs.declared.work.Work.TheVariants as work
use Rattle.s39_cli.specs.Ending.{IsFlushed}
use Rattle.s39_cli.specs.Outcome.{judged, status_of_refusal}
use Rattle.s39_cli.specs.Said.{AreSomeWorkLines, AreWorkLines, IsAllOf, Says, SaysCount, SaysInRun, SaysOfNone, SaysSet}
use Rattle.s39_cli.specs.Said.{drill_lines, is_attended, line_if, listed_lines, none_line, set_lines, shows_progress}
use Rattle.s39_cli.proofs.Deliveries.{of_all}
use Rattle.s39_cli.proofs.HowFar.{told_listed}
use Rattle.s39_cli.proofs.Said.{nothing_said, says_both}

-- a reader has some input
pub some_input : (told : Option (List ℕ)) → (input : Input) × IsAllOf told input
some_input None = (whole [], ([], tt, refl))
some_input (Some bytes) = (whole bytes, (bytes, refl, refl))

-- a refusal is that a write failed, or another
pub failed_or_not : (r : Refusal) → (r ≡ Device Write) ⊎ (r ≢ Device Write)
failed_or_not (Device Write) = inl refl
failed_or_not (Device Read) = inr (λ same. absurd (let zero : write_failures_in (Device Read) ≡ write_failures_in (Device Write) = ap write_failures_in same in omega (arith, zero)))
failed_or_not r = inr (λ same. absurd (let zero : write_failures_in r ≡ write_failures_in (Device Write) = ap write_failures_in same in omega (arith, zero)))

-- what isn't written by a refusal, and what isn't told
pub unmoved : {T : Type 0} (found : Result T Fault) (Kept Untold : Type 0) → IfErr found (λ fault. fault.refusal ≢ Device Write → Kept × Untold)
    → IfErr found (λ fault. fault.refusal ≢ Device Write → Untold)
unmoved (Ok t) Kept Untold both = both
unmoved (Err fault) Kept Untold both = λ other. (both other).1

-- all that a work says for an input is some of what it says
some_of_work : (terminals : Terminals) (bare : Bool) (w : Work) (input : Input) (text : Text) → AreWorkLines terminals bare w input text
    → AreSomeWorkLines terminals bare w text
some_of_work terminals bare work.Show input text are = are
some_of_work terminals bare (work.Create creation) input text are = are
some_of_work terminals bare (work.Recover passphrase form expected) input text are = inr are
some_of_work terminals bare (work.Drill drill) input text are = inr (are.set, length are.listed, are.text_is)
some_of_work terminals bare work.Status input text are = are
some_of_work terminals bare (work.Reissue reissue) input text are = are
some_of_work terminals bare work.Repair input text are = are
some_of_work terminals bare (work.Resplit resplit) input text are = are

module _ {E : Type 0} (contents : E → Option (List ℕ)) where
  -- what is said of a set, and then of so many quorums
  said_of_drill : (set : List ShareFields) (n : ℕ) (old mid new : Person E) → SaysSet contents set old mid → AreSeen (SaysCount contents) n mid new
      → Says contents old new (drill_lines old.terminals set n)
  said_of_drill set n old mid new found seen =
      says_both contents old mid new (line_if (is_attended old.terminals) (set_lines set)) (line_if (shows_progress old.terminals) (listed_lines n)) found
      (subst (λ (t : Terminals). Says contents mid new (line_if (shows_progress t) (listed_lines n))) found.same_terminals (told_listed contents n mid new seen))

module _ {R E : Type 0} (remaining : R → Option (List ℕ)) (contents : E → Option (List ℕ)) (terminals : Terminals) (bare : Bool) where
  -- nothing is said for a work that says nothing itself
  pub unsaid_work : {T : Type 0} (reader : R) (w v : Work) (answer : Result T Fault) (old : Person E) → w ≡ v
      → ((input : Input) → AreWorkLines terminals bare v input []) → AreSomeWorkLines terminals bare v []
      → SaysInRun remaining contents terminals bare w reader answer old old
  unsaid_work reader w v (Ok found) old same none some =
      let (input, all) = some_input (remaining reader) in
      (input, all, ([], subst (λ (x : Work). AreWorkLines terminals bare x input []) (sym same) (none input), nothing_said contents old))
  unsaid_work reader w v (Err fault) old same none some =
      (λ _. refl, ([], subst (λ (x : Work). AreSomeWorkLines terminals bare x []) (sym same) some, nothing_said contents old))

  -- the same beside what is judged by an answer
  pub said_judged : {T : Type 0} (reader : R) (is_well : T → Bool) (w : Work) (found : Result T Fault) (given : Result Bool Fault) (old new : Person E)
      → given ≡ judged is_well found → SaysInRun remaining contents terminals bare w reader found old new
      → SaysInRun remaining contents terminals bare w reader given old new
  said_judged reader is_well w (Ok found) given old new same says =
      subst (λ (answer : Result Bool Fault). SaysInRun remaining contents terminals bare w reader answer old new) (sym same) says
  said_judged reader is_well w (Err fault) given old new same says =
      subst (λ (answer : Result Bool Fault). SaysInRun remaining contents terminals bare w reader answer old new) (sym same) says

  -- some of what a work says is said in any case
  said_some : (reader : R) (w : Work) (answer : Result Bool Fault) (old new : Person E)
      → SaysInRun remaining contents terminals bare w reader answer old new
      → (text : Text) × AreSomeWorkLines terminals bare w text × Says contents old new text
  said_some reader w (Ok is_well) old new (input, all, (text, are, says)) = (text, some_of_work terminals bare w input text are, says)
  said_some reader w (Err fault) old new (same, some) = some

  -- a flush leaves what is said
  pub said_behind : (reader input : R) (w : Work) (held last : Option (List ℕ)) (old new : Person E) (answer given : Result Bool Fault) → reader ≡ input
      → SaysInRun remaining contents terminals bare w reader answer old new → IsFlushed held last answer given
      → SaysInRun remaining contents terminals bare w input given old new
  said_behind reader input w held last old new answer given is says (kept, inl same) =
      subst (λ (r : R). SaysInRun remaining contents terminals bare w r given old new) is
      (subst (λ (a : Result Bool Fault). SaysInRun remaining contents terminals bare w reader a old new) (sym same) says)
  said_behind reader input w held last old new answer given is says (kept, inr failed) =
      subst (λ (a : Result Bool Fault). SaysInRun remaining contents terminals bare w input a old new) (sym failed)
      (λ one. absurd (omega (arith, one)), said_some reader w answer old new says)

  module _ (reader read_to : Counted R) where
    -- a drill
    pub said_by_drill : (drill : Drill) (after : Option Names) (found : Result Done Fault) (old new : Person E) → terminals ≡ old.terminals
        → after ≡ drill.after → read_to.failures ≡ reader.failures + read_failures found
        → IfOk found (λ done. OfInput remaining reader read_to (SeesAll (SaysCount contents) (SaysSet contents) after drill.limit old new))
        → (Are : List ShareFields → List Names → Type 0) → IfErr found (λ fault. fault.refusal ≡ Device Write
        → OfInput remaining reader read_to (SeesFirst (SaysCount contents) (SaysSet contents) Are after drill.limit old new))
        → IfErr found (λ fault. fault.refusal ≢ Device Write → new ≡ old)
        → SaysInRun remaining contents terminals bare (work.Drill drill) reader.device found old new
    said_by_drill drill after (Ok done) old new here is reads all Are cut none =
        let (bytes, told, s) = of_all remaining reader read_to (SeesAll (SaysCount contents) (SaysSet contents) after drill.limit old new) all
        (omega (arith, reads)) in (
          whole bytes,
          (bytes, told, refl),
          (
            drill_lines terminals s.set (length s.listed),
            record {
              set = s.set;
              listed = s.listed;
              read = s.read;
              listing = subst (λ (a : Option Names). IsListing s.set a drill.limit s.listed) is s.listing;
              text_is = refl;
            },
            subst (λ (t : Terminals). Says contents old new (drill_lines t s.set (length s.listed))) (sym here)
                (said_of_drill contents s.set (length s.listed) old s.mid new s.found s.seen),
          ),
        )
    said_by_drill drill after (Err fault) old new here is reads all Are cut none = by_refusal (failed_or_not fault.refusal)
      where
        by_refusal : (fault.refusal ≡ Device Write) ⊎ (fault.refusal ≢ Device Write)
            → (status_of_refusal fault.refusal ≡ 1 → new ≡ old)
            × ((text : Text) × AreSomeWorkLines terminals bare (work.Drill drill) text × Says contents old new text)
        by_refusal (inl failed) =
            let (input, s) = some_read remaining reader read_to _ (cut failed) in (
              λ one. absurd (let three : status_of_refusal fault.refusal ≡ 3 = ap status_of_refusal failed in omega (arith, one, three)),
              (
                drill_lines terminals s.set s.count,
                inr (s.set, s.count, refl),
                subst (λ (t : Terminals). Says contents old new (drill_lines t s.set s.count)) (sym here)
                    (said_of_drill contents s.set s.count old s.mid new s.found s.seen),
              ),
            )
        by_refusal (inr other) =
            let same = none other in
            (λ _. same, ([], inl refl, subst (λ (p : Person E). Says contents old p []) (sym same) (nothing_said contents old)))

    -- a recovery
    pub said_by_recovery : (passphrase : _) (form : _) (expected : _) (found : Result (Unit {0}) Fault) (old new : Person E) → terminals ≡ old.terminals
        → bare ≡ old.is_bare → IfOk found (λ done. SaysOfNone contents old new)
        → IfErr found (λ fault. fault.refusal ≡ Device Write → SaysOfNone contents old new)
        → IfErr found (λ fault. fault.refusal ≢ Device Write → new ≡ old)
        → SaysInRun remaining contents terminals bare (work.Recover passphrase form expected) reader.device found old new
    said_by_recovery passphrase form expected (Ok done) old new here is all cut none =
        let (input, told) = some_input (remaining reader.device) in
        (input, told, (none_line terminals bare, refl, same_line here is all))
      where
        same_line : terminals ≡ old.terminals → bare ≡ old.is_bare → SaysOfNone contents old new → Says contents old new (none_line terminals bare)
        same_line here is says = subst (λ (t : Terminals). Says contents old new (none_line t bare)) (sym here)
            (subst (λ (b : Bool). Says contents old new (none_line old.terminals b)) (sym is) says)
    said_by_recovery passphrase form expected (Err fault) old new here is all cut none = by_refusal (failed_or_not fault.refusal)
      where
        by_refusal : (fault.refusal ≡ Device Write) ⊎ (fault.refusal ≢ Device Write)
            → (status_of_refusal fault.refusal ≡ 1 → new ≡ old)
            × ((text : Text) × AreSomeWorkLines terminals bare (work.Recover passphrase form expected) text × Says contents old new text)
        by_refusal (inl failed) = (
          λ one. absurd (let three : status_of_refusal fault.refusal ≡ 3 = ap status_of_refusal failed in omega (arith, one, three)),
          (
            none_line terminals bare,
            inr refl,
            subst (λ (t : Terminals). Says contents old new (none_line t bare)) (sym here)
                (subst (λ (b : Bool). Says contents old new (none_line old.terminals b)) (sym is) (cut failed)),
          ),
        )
        by_refusal (inr other) =
            let same = none other in
            (λ _. same, ([], inl refl, subst (λ (p : Person E). Says contents old p []) (sym same) (nothing_said contents old)))
