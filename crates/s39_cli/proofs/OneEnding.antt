-- Files, input and output that tell their bytes, and no call of which fails, give one exit status and one output.
use Rattle.std.proofs.Common.{◌≡◌, ◌≢◌, ◌⊎◌, ◌++◌, ◌∙◌, ℕ, length, Bool, true, false, Bor, List, [], Option, Some, None, IfSome}
use Rattle.std.proofs.Common.{ap, append-nil, arith, inl, inr, refl, subst, sym, true≢false, unwrap_or}
use Rattle.std.proofs.lemmas.List.{append_cancel_left}
use Rattle.std.specs.Io.KnownBytes.{Appends, Consumes}
use Rattle.clap.specs.Words.{Text, takes}
use Rattle.s39_backup.specs.declared.plan_error.PlanError.{PlanError}
use Rattle.s39_input.specs.Input.{whole}
use Rattle.s39_command.specs.declared.command.Call.{Call}
use Rattle.s39_command.specs.declared.command.Job.{Job}
use Rattle.s39_command.specs.declared.command.Job.TheVariants as job
use Rattle.s39_command.specs.declared.command.Texts.{Texts}
use Rattle.s39_command.specs.Command.{AsksForText, AreSameCalls, AreSameTexts, HaveSameValues, shamir_app, text_in}
use Rattle.s39_command.specs.Jobs.{or_empty}
use Rattle.s39_command.proofs.Faults.{one_fault}
use Rattle.s39_command.proofs.OneCall.{one_call, said_same}
use Rattle.s39_cli.specs.declared.values.BadValue.{BadValue}
use Rattle.s39_cli.specs.declared.values.BadValue.TheVariants.{TooLong, Mnemonic}
use Rattle.s39_cli.specs.declared.values.Until.{Until}
use Rattle.s39_cli.specs.declared.values.Until.TheVariants.{LineEnd}
use Rattle.s39_cli.specs.Ending.{AreAllOf, Delivers, DoesDrawn, DoesJob, EndsAs, EndsAtOnce, IsDoneWith, IsOutcome, IsTyped, TakesCall}
use Rattle.s39_cli.specs.Headline.{OneOutcome}
use Rattle.s39_cli.specs.OneEnding.{OneEnding, SomeEnding, telling}
use Rattle.s39_cli.specs.Outcome.{GivesPlan, HasBadSecret, HasBadPlan, HasBadCursor, HasBadFingerprint, HasBadNames, IsNotHexadecimal, IsReady}
use Rattle.s39_cli.specs.Outcome.{WritesFingerprint, WritesNames}
use Rattle.s39_cli.specs.Values.{HasBad, HoldsBad, IsBadFile, IsBadLine, IsMnemonic, IsValueIn, TakesValue, TakesValues, end_in, part, text_of}
use Rattle.s39_cli.specs.Values.{without_line_end}
use Rattle.s39_cli.proofs.SameValues.{same_done, same_typed, same_values_write_the_same}
use Rattle.s39_cli.proofs.Works.{no_cause}

-- ---- a value

left_of : (known : List ℕ) (left : Option (List ℕ)) (bytes : List ℕ) → Consumes (Some known) left bytes
    → (rest : List ℕ) × (left ≡ Some rest) × (known ≡ bytes ++ rest)
left_of known None bytes gone = absurd gone
left_of known (Some rest) bytes gone = (rest, refl, gone)

one_rest : (known : List ℕ) (a b : Option (List ℕ)) (bytes : List ℕ) → Consumes (Some known) a bytes → Consumes (Some known) b bytes → a ≡ b
one_rest known a b bytes first second =
    let x = left_of known a bytes first in
    let y = left_of known b bytes second in
    x.1 ∙ ap (λ (rest : List ℕ). Some rest) (append_cancel_left bytes x.0 y.0 (sym x.2 ∙ y.2)) ∙ sym y.1

module _ (until : Until) (known : List ℕ) where
  value_of_part : (left : Option (List ℕ)) (value : List ℕ) → IsValueIn until (Some known) left value → value ≡ without_line_end (part until known)
  value_of_part left value is = is.value_is ∙ ap without_line_end is.all

  -- the bytes have one value, and one rest
  one_value : (a b : Option (List ℕ)) (v w : List ℕ) → IsValueIn until (Some known) a v → IsValueIn until (Some known) b w → (v ≡ w) × (a ≡ b)
  one_value a b v w is also = (
    value_of_part a v is ∙ sym (value_of_part b w also),
    one_rest known a b (part until known) (subst (Consumes (Some known) a) is.all is.read) (subst (Consumes (Some known) b) also.all also.read),
  )

  -- a value is neither too long nor a mnemonic
  not_bad : (bad : BadValue) (left : Option (List ℕ)) (value : List ℕ) → IsValueIn until (Some known) left value → HoldsBad bad until (Some known) → ⊥
  not_bad TooLong left value is long =
      let fits = is.fits in
      let same = ap (λ (bytes : List ℕ). length bytes) (value_of_part left value is) in
      omega (arith, fits, same, long)
  not_bad Mnemonic left value is mnemonic = is.no_mnemonic (subst IsMnemonic (sym (value_of_part left value is)) mnemonic.1)

-- ---- the values of a call

module _ {R : Type 0} (files : Text → List ℕ) (remaining : R → Option (List ℕ)) where
  -- the readers have the same bytes left
  abbrev AreAlike : R → R → Type 0
  AreAlike one other = (bytes : List ℕ) × (remaining one ≡ Some bytes) × (remaining other ≡ Some bytes)

  one_take : (file given : Option (Bor Text)) (v w : Option (List ℕ)) (old new first last : R) → text_in file ≡ text_in given → AreAlike old first
      → TakesValue (telling files) remaining file v old new → TakesValue (telling files) remaining given w first last → (v ≡ w) × AreAlike new last
  one_take None None v w old new first last same alike is also =
      (is.0 ∙ sym also.0, (alike.0, ap remaining is.1 ∙ alike.1, ap remaining also.1 ∙ alike.2))
  one_take None (Some b) v w old new first last same alike is also = cc same
  one_take (Some a) None v w old new first last same alike is also = cc same
  one_take (Some a) (Some b) v w old new first last same alike (read, is, inl line) (got, also, inl next) =
      let x = subst (λ (o : Option (List ℕ)). IsValueIn LineEnd o (remaining new) read) alike.1 line.1 in
      let y = subst (λ (o : Option (List ℕ)). IsValueIn LineEnd o (remaining last) got) alike.2 next.1 in
      let pair = one_value LineEnd alike.0 (remaining new) (remaining last) read got x y in
      let left = left_of alike.0 (remaining new) x.bytes x.read in
      (is ∙ ap (λ (l : List ℕ). Some l) pair.0 ∙ sym also, (left.0, left.1, sym pair.1 ∙ left.1))
  one_take (Some a) (Some b) v w old new first last same alike (read, is, inl line) (got, also, inr file) =
      absurd (file.0 (sym (said_same same) ∙ line.0))
  one_take (Some a) (Some b) v w old new first last same alike (read, is, inr file) (got, also, inl line) = absurd (file.0 (said_same same ∙ line.0))
  one_take (Some a) (Some b) v w old new first last same alike (read, is, inr file) (got, also, inr next) =
      let x = subst (λ (name : Text). IsValueIn (end_in name) (Some (files name)) file.2.0 read) (said_same same) file.2.1 in
      let pair = one_value (end_in b.now) (files b.now) file.2.0 next.2.0 read got x next.2.1 in
      (is ∙ ap (λ (l : List ℕ). Some l) pair.0 ∙ sym also, (alike.0, ap remaining file.1 ∙ alike.1, ap remaining next.1 ∙ alike.2))

  no_bad_file : (bad : BadValue) (file given : Option (Bor Text)) (w : Option (List ℕ)) (first last : R) → text_in file ≡ text_in given
      → IsBadFile bad (telling files) file → TakesValue (telling files) remaining given w first last → ⊥
  no_bad_file bad None given w first last same is takes = is
  no_bad_file bad (Some a) None w first last same is takes = cc same
  no_bad_file bad (Some a) (Some b) w first last same is (got, also, inl line) = is.0 (said_same same ∙ line.0)
  no_bad_file bad (Some a) (Some b) w first last same is (got, also, inr file) =
      not_bad (end_in b.now) (files b.now) bad file.2.0 got file.2.1
      (subst (λ (name : Text). HoldsBad bad (end_in name) (Some (files name))) (said_same same) is.1)

  no_bad_line : (bad : BadValue) (file given : Option (Bor Text)) (w : Option (List ℕ)) (old first last : R) → text_in file ≡ text_in given
      → AreAlike old first → IsBadLine (telling files) remaining bad file old → TakesValue (telling files) remaining given w first last → ⊥
  no_bad_line bad None given w old first last same alike is takes = is.0
  no_bad_line bad (Some a) None w old first last same alike is takes = cc same
  no_bad_line bad (Some a) (Some b) w old first last same alike is (got, also, inl line) =
      not_bad LineEnd alike.0 bad (remaining last) got (subst (λ (o : Option (List ℕ)). IsValueIn LineEnd o (remaining last) got) alike.2 line.1)
      (subst (HoldsBad bad LineEnd) alike.1 is.1)
  no_bad_line bad (Some a) (Some b) w old first last same alike is (got, also, inr file) = file.0 (sym (said_same same) ∙ is.0)

  -- what is read as values isn't refused
  no_bad : (bad : BadValue) (texts given : Texts) (v w : Option (List ℕ)) (old first last : R) → AreSameTexts texts given → AreAlike old first
      → HasBad (telling files) remaining bad texts old → TakesValues (telling files) remaining given v w first last → ⊥
  no_bad bad texts given v w old first last same alike (inl (inl is)) takes =
      no_bad_file bad texts.secret given.secret v first takes.0 same.secret is takes.1
  no_bad bad texts given v w old first last same alike (inl (inr is)) takes =
      no_bad_file bad texts.passphrase given.passphrase w takes.0 last same.passphrase is takes.2
  no_bad bad texts given v w old first last same alike (inr (inl is)) takes =
      no_bad_line bad texts.secret given.secret v old first takes.0 same.secret alike is takes.1
  no_bad bad texts given v w old first last same alike (inr (inr (between, (read, taken), is))) takes =
      let next = one_take texts.secret given.secret read v old between first takes.0 same.secret alike taken takes.1 in
      no_bad_line bad texts.passphrase given.passphrase w between takes.0 last same.passphrase next.1 is takes.2

-- ---- whether a job can be begun

same_ready : (j k : Job) (s : Text) → HaveSameValues j k → IsReady j s → IsReady k s
same_ready job.Show k s same ready = subst (λ (other : Job). IsReady other s) (sym same) ready
same_ready (job.Create plan e x) k s (p, same, plans) ready =
    subst (λ (other : Job). IsReady other s) (sym same) (ready.0, subst GivesPlan plans ready.1)
same_ready (job.Recover f e) k s (e', same, noted) ready =
    subst (λ (other : Job). IsReady other s) (sym same) (subst (λ (t : Option Text). IfSome t WritesFingerprint) noted ready)
same_ready (job.Drill a l f e) k s (a', e', same, cursors, noted) ready =
    subst (λ (other : Job). IsReady other s) (sym same) (
      subst (λ (t : Option Text). IfSome t WritesNames) cursors ready.0,
      subst (λ (t : Option Text). IfSome t WritesFingerprint) noted ready.1,
    )
same_ready job.Status k s same ready = subst (λ (other : Job). IsReady other s) (sym same) ready
same_ready (job.Reissue t n) k s (t', n', same, plans, names) ready =
    subst (λ (other : Job). IsReady other s) (sym same) (subst GivesPlan plans ready.0, subst WritesNames names ready.1)
same_ready job.Repair k s same ready = subst (λ (other : Job). IsReady other s) (sym same) ready
same_ready (job.Resplit t f) k s (t', f', same, plans, files) ready = subst (λ (other : Job). IsReady other s) (sym same) (subst GivesPlan plans ready)

-- a job is done with one thing
one_given : (files : Text → List ℕ) (j : Job) (s a b : Text) → IsDoneWith (telling files) j s a → IsDoneWith (telling files) j s b → a ≡ b
one_given files (job.Resplit plan file) s a b is also = is ∙ sym also
one_given files job.Show s a b is also = is ∙ sym also
one_given files (job.Create plan e x) s a b is also = is ∙ sym also
one_given files (job.Recover f e) s a b is also = is ∙ sym also
one_given files (job.Drill a l f e) s given other is also = is ∙ sym also
one_given files job.Status s a b is also = is ∙ sym also
one_given files (job.Reissue t n) s a b is also = is ∙ sym also
one_given files job.Repair s a b is also = is ∙ sym also

-- a cause other than that of the secret
abbrev HasOther : Job → Text → Type 0
HasOther j s = ((error : PlanError) × HasBadPlan j s error) ⊎ HasBadCursor j ⊎ HasBadFingerprint j ⊎ HasBadNames j

other_of_create : (plan : Bor Text) (e : ℕ) (x : Bool) (s : Text) → IsNotHexadecimal s → HasOther (job.Create plan e x) s → ⊥
other_of_create plan e x s bad (inl (error, both)) = let one = both.0.1 in let two = bad.1 in cc
other_of_create plan e x s bad (inr (inl cursor)) = cursor
other_of_create plan e x s bad (inr (inr (inl fingerprint))) = fingerprint
other_of_create plan e x s bad (inr (inr (inr names))) = names

secret_or_other : (j k : Job) (s : Text) → HaveSameValues j k → HasBadSecret j s → HasOther k s → ⊥
secret_or_other (job.Create plan e x) k s (p, same, plans) bad other =
    other_of_create p e x s bad (subst (λ (given : Job). HasOther given s) same other)
secret_or_other _ k s same bad other = absurd bad

ready_or_other : (j k : Job) (s : Text) → HaveSameValues k j → HasOther j s → IsReady k s → ⊥
ready_or_other j k s same (inl (error, bad)) ready = (no_cause j s (same_ready k j s same ready)).no_bad_plan error bad
ready_or_other j k s same (inr (inl bad)) ready = (no_cause j s (same_ready k j s same ready)).no_bad_cursor bad
ready_or_other j k s same (inr (inr (inl bad))) ready = (no_cause j s (same_ready k j s same ready)).no_bad_fingerprint bad
ready_or_other j k s same (inr (inr (inr bad))) ready = (no_cause j s (same_ready k j s same ready)).no_bad_names bad

-- ---- a job

appended : (held : List ℕ) (o : Option (List ℕ)) (text : List ℕ) → Appends (Some held) o text → o ≡ Some (held ++ text)
appended held None text is = absurd is
appended held (Some now) text is = ap (λ (l : List ℕ). Some l) is

module _ {R W : Type 0} (files : Text → List ℕ) (remaining : R → Option (List ℕ)) (contents : W → Option (List ℕ)) (once : OneOutcome) where
  -- What went to two writers, which held this and that before, is the same.
  abbrev IsOne : List ℕ → List ℕ → ℕ → W → ℕ → W → Type 0
  IsOne held kept status written_to another given_to = (status ≡ another)
      × ((output other : List ℕ) → contents written_to ≡ Some (held ++ output) → contents given_to ≡ Some (kept ++ other) → output ≡ other)

  same_output : (held : List ℕ) (w : W) (text output : List ℕ) → contents w ≡ Some (held ++ text) → contents w ≡ Some (held ++ output) → text ≡ output
  same_output held w text output is also = append_cancel_left held text output (said_same (sym is ∙ also))

  module _ (held kept : List ℕ) (reader first : R) (writer output : W) (held_is : contents writer ≡ Some held) (kept_is : contents output ≡ Some kept)
      (status another : ℕ) (read_to last : R) (written_to given_to : W) where
    one_text : (text : List ℕ) → status ≡ another → Appends (contents writer) (contents written_to) text
        → Appends (contents output) (contents given_to) text → IsOne held kept status written_to another given_to
    one_text text same is also = (
      same,
      λ left right is_left is_right.
          sym (same_output held written_to text left
          (appended held (contents written_to) text (subst (λ (o : Option (List ℕ)). Appends o (contents written_to) text) held_is is)) is_left)
          ∙ same_output kept given_to text right
          (appended kept (contents given_to) text (subst (λ (o : Option (List ℕ)). Appends o (contents given_to) text) kept_is also)) is_right,
    )

    nothing : (status ≡ another) → written_to ≡ writer → given_to ≡ output → IsOne held kept status written_to another given_to
    nothing same is also = (
      same,
      λ left right is_left is_right.
          let none = append_cancel_left held left [] (said_same (sym is_left ∙ ap contents is ∙ held_is) ∙ sym (append-nil held)) in
          let neither = append_cancel_left kept right [] (said_same (sym is_right ∙ ap contents also ∙ kept_is) ∙ sym (append-nil kept)) in
          none ∙ sym neither,
    )

    at_once : (wanted : ℕ) → EndsAtOnce wanted reader writer status read_to written_to → EndsAtOnce wanted first output another last given_to
        → IsOne held kept status written_to another given_to
    at_once wanted is also = nothing (is.0 ∙ sym also.0) is.2 also.2

    one_delivery : (j k : Job) (s p : Text) → HaveSameValues j k → AreAlike files remaining reader first → status ≢ 3 → another ≢ 3
        → Delivers remaining contents (IsOutcome j s p) reader writer status read_to written_to
        → Delivers remaining contents (IsOutcome k s p) first output another last given_to → IsOne held kept status written_to another given_to
    one_delivery j k s p same alike sound well delivers gives =
        let x = delivers.done sound in
        let y = gives.done well in
        let all = subst (λ (o : Option (List ℕ)). AreAllOf o x.0) alike.1 x.1 in
        let every = subst (λ (o : Option (List ℕ)). AreAllOf o y.0) alike.2 y.1 in
        let out = subst (λ (l : List ℕ). IsOutcome j s p (whole l) x.2.0 status) all x.2.1 in
        let given = subst (λ (l : List ℕ). IsOutcome k s p (whole l) y.2.0 another) every y.2.1 in
        let one = once k s p (whole alike.0) x.2.0 y.2.0 status another
        (same_values_write_the_same j k same s p (whole alike.0) x.2.0 status out) given in
        one_text y.2.0 one.1 (subst (Appends (contents writer) (contents written_to)) one.0 x.2.2) y.2.2

    one_job : (j k : Job) (s p : Text) → HaveSameValues j k → HaveSameValues k j → AreAlike files remaining reader first → status ≢ 3 → another ≢ 3
        → DoesJob remaining contents j s p reader writer status read_to written_to
        → DoesJob remaining contents k s p first output another last given_to → IsOne held kept status written_to another given_to
    one_job j k s p same back alike sound well does gives = by (grouped j reader writer status read_to written_to does)
        (grouped k first output another last given_to gives)
      where
        Grouped : Job → R → W → ℕ → R → W → Type 0
        Grouped j reader writer status read_to written_to =
            (HasBadSecret j s × EndsAtOnce 2 reader writer status read_to written_to)
            ⊎ ((HasOther j s × EndsAtOnce 1 reader writer status read_to written_to)
            ⊎ (IsReady j s × Delivers remaining contents (IsOutcome j s p) reader writer status read_to written_to))

        grouped : (j : Job) (reader : R) (writer : W) (status : ℕ) (read_to : R) (written_to : W)
            → DoesJob remaining contents j s p reader writer status read_to written_to → Grouped j reader writer status read_to written_to
        grouped j reader writer status read_to written_to (inl bad) = inl bad
        grouped j reader writer status read_to written_to (inr (inl bad)) = inr (inl (inl bad.0, bad.1))
        grouped j reader writer status read_to written_to (inr (inr (inl bad))) = inr (inl (inr (inl bad.0), bad.1))
        grouped j reader writer status read_to written_to (inr (inr (inr (inl bad)))) = inr (inl (inr (inr (inl bad.0)), bad.1))
        grouped j reader writer status read_to written_to (inr (inr (inr (inr (inl bad))))) = inr (inl (inr (inr (inr bad.0)), bad.1))
        grouped j reader writer status read_to written_to (inr (inr (inr (inr (inr ready))))) = inr (inr ready)

        by : Grouped j reader writer status read_to written_to → Grouped k first output another last given_to
            → IsOne held kept status written_to another given_to
        by (inl bad) (inl also) = at_once 2 bad.1 also.1
        by (inr (inl bad)) (inr (inl also)) = at_once 1 bad.1 also.1
        by (inr (inr ready)) (inr (inr also)) = one_delivery j k s p same alike sound well ready.1 also.1
        by (inl bad) (inr (inl also)) = absurd (secret_or_other j k s same bad.0 also.0)
        by (inr (inl bad)) (inl also) = absurd (secret_or_other k j s back also.0 bad.0)
        by (inl bad) (inr (inr ready)) = absurd ((no_cause j s (same_ready k j s back ready.0)).no_bad_secret bad.0)
        by (inr (inr ready)) (inl bad) = absurd ((no_cause k s (same_ready j k s same ready.0)).no_bad_secret bad.0)
        by (inr (inl bad)) (inr (inr ready)) = absurd (ready_or_other j k s back bad.0 ready.0)
        by (inr (inr ready)) (inr (inl bad)) = absurd (ready_or_other k j s same bad.0 ready.0)

    one_drawn : (j k : Job) (s p : Text) → HaveSameValues j k → HaveSameValues k j → AreAlike files remaining reader first → status ≢ 3 → another ≢ 3
        → DoesDrawn (telling files) remaining contents j s p reader writer status read_to written_to
        → DoesDrawn (telling files) remaining contents k s p first output another last given_to → IsOne held kept status written_to another given_to
    one_drawn j k s p same back alike sound well (inl failed) gives = absurd (sound failed.1.0)
    one_drawn j k s p same back alike sound well does (inl failed) = absurd (well failed.1.0)
    one_drawn j k s p same back alike sound well (inr (a, is, does)) (inr (b, also, gives)) =
        let one = one_given files k s a b (same_done (telling files) j k s a same is) also in
        one_job j k b p same back alike sound well
        (subst (λ (t : Text). DoesJob remaining contents j t p reader writer status read_to written_to) one does) gives

  -- ---- a call

  same_text : (v w : Option (List ℕ)) (a b : Option (Bor Text)) → v ≡ w → text_in a ≡ text_in b → text_of v a ≡ text_of w b
  same_text v w a b read given =
      ap (λ (o : Option (List ℕ)). unwrap_or o (or_empty (text_in a))) read ∙ ap (λ (o : Option Text). unwrap_or w (or_empty o)) given

  module _ (at_terminal : Bool) (held kept : List ℕ) (reader first : R) (writer output : W) (alike : AreAlike files remaining reader first)
      (held_is : contents writer ≡ Some held) (kept_is : contents output ≡ Some kept) (status another : ℕ) (sound : status ≢ 3) (well : another ≢ 3)
      (read_to last : R) (written_to given_to : W) where
    one_end : (call other : Call) → AreSameCalls call other → AreSameCalls other call
        → TakesCall (telling files) remaining contents at_terminal call reader writer status read_to written_to
        → TakesCall (telling files) remaining contents at_terminal other first output another last given_to
        → IsOne held kept status written_to another given_to
    one_end call other same back (inl typed) (inl also) =
        at_once held kept reader first writer output held_is kept_is status another read_to last written_to given_to 2 typed.1 also.1
    one_end call other same back (inl typed) (inr (inl also)) = absurd (also.0 (same_typed at_terminal call.job other.job same.values typed.0))
    one_end call other same back (inl typed) (inr (inr also)) = absurd (also.0 (same_typed at_terminal call.job other.job same.values typed.0))
    one_end call other same back (inr (inl also)) (inl typed) = absurd (also.0 (same_typed at_terminal other.job call.job back.values typed.0))
    one_end call other same back (inr (inr also)) (inl typed) = absurd (also.0 (same_typed at_terminal other.job call.job back.values typed.0))
    one_end call other same back (inr (inl (untyped, (lacks, (inr failed, kept_as))))) also = absurd (sound failed)
    one_end call other same back also (inr (inl (untyped, (lacks, (inr failed, kept_as))))) = absurd (well failed)
    one_end call other same back (inr (inl (untyped, (lacks, (inl bad, kept_as))))) (inr (inl (unlike, (wants, (inl also, left_as))))) =
        nothing held kept reader first writer output held_is kept_is status another read_to last written_to given_to (bad.0 ∙ sym also.0) kept_as
        left_as
    one_end call other same back (inr (inl (untyped, (lacks, (inl bad, kept_as))))) (inr (inr (unlike, (s, p, behind, takes, does)))) =
        absurd (no_bad files remaining bad.1.0 call.files other.files s p reader first behind same.files alike bad.1.1 takes)
    one_end call other same back (inr (inr (unlike, (s, p, behind, takes, does)))) (inr (inl (untyped, (lacks, (inl bad, kept_as))))) =
        absurd (no_bad files remaining bad.1.0 other.files call.files s p first reader behind back.files (alike.0, alike.2, alike.1) bad.1.1 takes)
    one_end call other same back (inr (inr (untyped, (s, p, behind, takes, does)))) (inr (inr (unlike, (t, q, behind', takes', does')))) =
        let secret = one_take files remaining call.files.secret other.files.secret s t reader takes.0 first takes'.0 same.files.secret alike
        takes.1 takes'.1 in
        let passphrase = one_take files remaining call.files.passphrase other.files.passphrase p q takes.0 behind takes'.0 behind'
        same.files.passphrase secret.1 takes.2 takes'.2 in
        let texts = same_text s t call.given.secret other.given.secret secret.0 same.given.secret in
        let words = same_text p q call.given.passphrase other.given.passphrase passphrase.0 same.given.passphrase in
        one_drawn held kept behind behind' writer output held_is kept_is status another read_to last written_to given_to call.job other.job
        (text_of t other.given.secret) (text_of q other.given.passphrase) same.values back.values passphrase.1 sound well
        (subst (λ (x : Text). DoesDrawn (telling files) remaining contents call.job x (text_of q other.given.passphrase) behind writer status read_to
        written_to) texts
        (subst (λ (y : Text). DoesDrawn (telling files) remaining contents call.job (text_of s call.given.secret) y behind writer status read_to
        written_to) words does))
        does'

    one_end_of_words : (words : List Text) → (AsksForText words → ⊥)
        → EndsAs (telling files) remaining contents at_terminal words reader writer status read_to written_to
        → EndsAs (telling files) remaining contents at_terminal words first output another last given_to
        → IsOne held kept status written_to another given_to
    one_end_of_words words unasked ends also = by (takes shamir_app words) refl
      where
        by : (is : Bool) → takes shamir_app words ≡ is → IsOne held kept status written_to another given_to
        by false untaken =
            at_once held kept reader first writer output held_is kept_is status another read_to last written_to given_to 2 (ends.refused untaken unasked)
            (also.refused untaken unasked)
        by true taken = elim (ends.taken taken) [
          | inl ((bad, gives), none) ↦ elim (also.taken taken) [
            | inl ((worse, too), neither) ↦
                at_once held kept reader first writer output held_is kept_is status another read_to last written_to given_to 2 none neither
            | inr (other, too, does) ↦ absurd (one_fault.no_call words bad other gives too)
          ]
          | inr (call, gives, does) ↦ elim (also.taken taken) [
            | inl ((worse, too), neither) ↦ absurd (one_fault.no_call words worse call too gives)
            | inr (other, too, also) ↦ one_end call other (one_call words call other gives too) (one_call words other call too gives) does also
          ]
        ]

pub one_ending : {R W : Type 0} (remaining : R → Option (List ℕ)) (contents : W → Option (List ℕ)) → OneOutcome → OneEnding remaining contents
one_ending remaining contents once files at_terminal words input output other status another unasked is also =
    let one = one_end_of_words files remaining contents once at_terminal is.held also.held is.reader also.reader is.writer also.writer
    (input, is.input_is, also.input_is) is.held_is also.held_is status another is.sound also.sound is.read_to also.read_to is.written_to
    also.written_to words unasked is.ends also.ends in
    (one.0, one.1 output other is.output_is also.output_is)

pub some_ending : SomeEnding
some_ending files at_terminal words j given secret input output status taken unasked gives untyped done_with ready outcome sound = record {
  reader = input;
  writer = [];
  read_to = [];
  written_to = output;
  held = [];
  input_is = refl;
  held_is = refl;
  ends = record {
    asked = λ asks. absurd (unasked asks);
    refused = λ refused _. absurd (true≢false (sym taken ∙ refused));
    taken = λ _. inr (
      _,
      gives,
      inr (inr (
        untyped,
        (
          None,
          None,
          input,
          (input, (refl, refl), (refl, refl)),
          inr (
            secret,
            done_with,
            inr (inr (inr (inr (inr (
              ready,
              record {
                read = (input, sym (append-nil input));
                done = λ _. (input, refl, (output, outcome, refl));
                failed = λ three. absurd (sound three);
              },
            ))))),
          ),
        ),
      )),
    );
  };
  sound = sound;
  output_is = refl;
}
