-- What is written of a plan, names and an input is one thing, and something.
use Rattle.std.proofs.Common.{◌≡◌, ℕ, List, [], All, refl, sym, ap, ◌∙◌, subst, Result, Ok, Err}
use Rattle.std.specs.Prelude.{IfOk}
use Rattle.s39_words.specs.declared.ShareFields.{ShareFields}
use Rattle.s39_words.specs.Share.{IsShare}
use Rattle.s39_words.specs.Printing.{IsPrinted}
use Rattle.s39_set.specs.Names.{Names}
use Rattle.s39_backup.specs.declared.plan.Members.{Members}
use Rattle.s39_input.specs.declared.fault.Fault.{Fault}
use Rattle.s39_input.specs.Input.{Input}
use Rattle.s39_creating.specs.Reissue.{AreWritten, reissued, IsReissueOutput}
use Rattle.s39_input.proofs.Sets.OneSet.{InputsAreReadOnce}
use Rattle.s39_input.proofs.Runs.PrintedLines.{printed_all, text_once}

-- shares or a fault are written in one way
module _ (one_printed_form : (share : ShareFields) (text other : List ℕ) → IsPrinted text share → IsPrinted other share → text ≡ other) where
  pub written_once : (result : Result (List ShareFields) Fault) (text other : List ℕ) (answer another : Result (Unit {0}) Fault) → AreWritten result text answer
      → AreWritten result other another → (text ≡ other) × (answer ≡ another)
  written_once (Ok shares) text other answer another p q = (text_once one_printed_form shares text other p.0 q.0, p.1 ∙ sym q.1)
  written_once (Err fault) text other answer another p q = (p.0 ∙ sym q.0, p.1 ∙ sym q.1)

  pub output_once : InputsAreReadOnce → (group_threshold : ℕ) (groups : List Members) (names : Names) (input : Input) (text other : List ℕ)
      (answer another : Result (Unit {0}) Fault)
      → IsReissueOutput group_threshold groups names input text answer → IsReissueOutput group_threshold groups names input other another
      → (text ≡ other) × (answer ≡ another)
  output_once one_set group_threshold groups names input text other answer another (result, (read, is, same), w) (result', (read', is', same'), w') =
      let results : result ≡ result' = sym same ∙ ap (reissued group_threshold groups names) (one_set input read read' is is') ∙ same' in
      written_once result' text other answer another (subst (λ r. AreWritten r text answer) results w) w'

-- shares or a fault are written
pub some_written : ((share : ShareFields) → IsShare share → (text : List ℕ) × IsPrinted text share) → (result : Result (List ShareFields) Fault)
    → IfOk result (All IsShare) → (text : List ℕ) × (answer : Result (Unit {0}) Fault) × AreWritten result text answer
some_written every_share_has_a_printed_form (Ok shares) are =
    let (text, printed) = printed_all every_share_has_a_printed_form shares are in (text, Ok tt, (printed, refl))
some_written every_share_has_a_printed_form (Err fault) are = ([], Err fault, (refl, refl))
