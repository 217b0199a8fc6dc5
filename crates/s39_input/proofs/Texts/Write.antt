-- A write of a line, a part at a time.
use Rattle.std.proofs.Common.{◌≡◌, ℕ, List, ◌++◌, take, drop, sym, ap, ◌∙◌, append_assoc, Option}
use Rattle.std.specs.Io.KnownBytes.{Appends}
use Rattle.std.proofs.KnownBytes.{Appends-trans}
use Rattle.std.proofs.lemmas.List.{take-append-drop}
use Rattle.s39_input.specs.Device.{Counted}

module _ {W : Type 0} (contents : W → Option (List ℕ)) where
  -- a part of the line is written, and this is the rest of it
  pub record IsWriting (old new : Counted W) (line rest : List ℕ) : Type 0 where
    pub written : List ℕ
    pub parts : line ≡ written ++ rest
    pub appends : Appends (contents old.device) (contents new.device) written
    pub no_failure : new.failures ≡ old.failures

  -- a write takes a part of the rest
  pub writing_goes_on : (old mid new : Counted W) (line rest : List ℕ) (count : ℕ) → IsWriting old mid line rest
      → Appends (contents mid.device) (contents new.device) (take count rest) → new.failures ≡ mid.failures
      → IsWriting old new line (drop count rest)
  writing_goes_on old mid new line rest count w a f = record {
    written = w.written ++ take count rest;
    parts = w.parts ∙ ap (λ l. w.written ++ l) (sym (take-append-drop count rest)) ∙ sym (append_assoc w.written (take count rest) (drop count rest));
    appends = Appends-trans (contents old.device) (contents mid.device) (contents new.device) w.written (take count rest) w.appends a;
    no_failure = f ∙ w.no_failure;
  }
