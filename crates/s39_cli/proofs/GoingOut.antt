-- A text that is written piece by piece.
use Rattle.std.proofs.Common.{◌≡◌, ◌++◌, ◌∙◌, ℕ, Bool, true, false, List, [], Option, Some, None, ap, drop, refl, subst, sym, take, append_assoc, append-nil}
use Rattle.std.proofs.lemmas.List.{take-append-drop}
use Rattle.std.specs.Io.KnownBytes.{Appends, Keeps}
use Rattle.std.proofs.KnownBytes.{Appends-trans}
use Rattle.s39_cli.specs.Ending.{GoesOut, HoldsBeginning, IsGoingOut}

nothing_appended : (a : Option (List ℕ)) → Appends a a []
nothing_appended None = tt
nothing_appended (Some x) = sym (append-nil x)

pub going_out_starts : (a : Option (List ℕ)) (text : List ℕ) → IsGoingOut a a text text
going_out_starts a text = record { written = []; appends = nothing_appended a; parts = refl }

pub going_out_goes_on : (a b c : Option (List ℕ)) (text rest : List ℕ) (count : ℕ) → IsGoingOut a b text rest → Appends b c (take count rest)
    → IsGoingOut a c text (drop count rest)
going_out_goes_on a b c text rest count out more = record {
  written = out.written ++ take count rest;
  appends = Appends-trans a b c out.written (take count rest) out.appends more;
  parts = out.parts ∙ ap (λ tail. out.written ++ tail) (sym (take-append-drop count rest)) ∙ sym (append_assoc out.written (take count rest) (drop count rest));
}

-- a beginning went out, and then the writer kept its bytes
pub begun : (a b c : Option (List ℕ)) (written rest : List ℕ) → Appends a b written → Keeps b c → HoldsBeginning a c (written ++ rest)
begun None b c written rest more kept = (rest, tt)
begun (Some x) None c written rest more kept = absurd more
begun (Some x) (Some y) None written rest more kept = absurd kept
begun (Some x) (Some y) (Some z) written rest more kept = (rest, ap (λ front. front ++ rest) (kept ∙ more) ∙ append_assoc x written rest)

pub going_out_stops : (a b c : Option (List ℕ)) (text rest : List ℕ) → IsGoingOut a b text rest → Keeps b c → HoldsBeginning a c text
going_out_stops a b c text rest out kept = subst (HoldsBeginning a c) (sym out.parts) (begun a b c out.written rest out.appends kept)

kept_of_nothing : (b c : Option (List ℕ)) → Appends b c [] → Keeps b c
kept_of_nothing None c more = tt
kept_of_nothing (Some y) None more = absurd more
kept_of_nothing (Some y) (Some z) more = more ∙ append-nil y

-- a write that took no byte
pub nothing_taken : (b c : Option (List ℕ)) (rest : List ℕ) (count : ℕ) → Appends b c (take count rest) → count ≡ 0 → Keeps b c
nothing_taken b c rest count more none = kept_of_nothing b c (subst (λ (n : ℕ). Appends b c (take n rest)) none more)

-- all went out, and then the writer kept its bytes
pub gone_and_kept : (a b c : Option (List ℕ)) (text : List ℕ) → Appends a b text → Keeps b c → Appends a c text
gone_and_kept None b c text more kept = tt
gone_and_kept (Some x) None c text more kept = absurd more
gone_and_kept (Some x) (Some y) None text more kept = absurd kept
gone_and_kept (Some x) (Some y) (Some z) text more kept = kept ∙ more

pub beginning_and_kept : (a b c : Option (List ℕ)) (text : List ℕ) → Appends a b text → Keeps b c → HoldsBeginning a c text
beginning_and_kept None b c text more kept = ([], tt)
beginning_and_kept (Some x) None c text more kept = absurd more
beginning_and_kept (Some x) (Some y) None text more kept = absurd kept
beginning_and_kept (Some x) (Some y) (Some z) text more kept = ([], append-nil z ∙ kept ∙ more)

-- a text that went out whole, and was flushed or not
pub shown_whole : (a b c : Option (List ℕ)) (text : List ℕ) (is_flushed : Bool) → Appends a b text → Keeps b c → GoesOut a c text is_flushed
shown_whole a b c text true more kept = gone_and_kept a b c text more kept
shown_whole a b c text false more kept = beginning_and_kept a b c text more kept
