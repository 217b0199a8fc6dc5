-- What is said while a drill lists.
use Rattle.std.proofs.Common.{◌≡◌, ◌++◌, ◌&&◌, ℕ, zero, suc, Bool, true, false, List, [], Option, refl, subst, sym}
use Rattle.clap.specs.Words.{Text}
use Rattle.s39_drilling.specs.Watching.{AreSeen}
use Rattle.s39_cli.specs.declared.person.Person.{Person}
use Rattle.s39_cli.specs.declared.person.Terminals.{Terminals}
use Rattle.s39_cli.specs.Said.{Says, SaysCount, is_told, line_if, listed_line, listed_lines, shows_progress}
use Rattle.s39_cli.proofs.Said.{nothing_said, says_both}

-- a text that is wanted if all is, and if it itself is
wanted_both : (wanted is : Bool) (before text : Text) → line_if wanted before ++ line_if (wanted && is) text ≡ line_if wanted (before ++ line_if is text)
wanted_both true is before text = refl
wanted_both false is before text = refl

none_wanted : (wanted : Bool) → line_if wanted [] ≡ []
none_wanted true = refl
none_wanted false = refl

module _ {E : Type 0} (contents : E → Option (List ℕ)) where
  pub told_listed : (n : ℕ) (old new : Person E) → AreSeen (SaysCount contents) n old new
      → Says contents old new (line_if (shows_progress old.terminals) (listed_lines n))
  told_listed zero old new same =
      subst (λ (p : Person E). Says contents old p (line_if (shows_progress old.terminals) [])) (sym same)
      (subst (Says contents old old) (sym (none_wanted (shows_progress old.terminals))) (nothing_said contents old))
  told_listed (suc n) old new (mid, before, last) =
      let first = told_listed n old mid before in
      let said : Says contents mid new (line_if (shows_progress old.terminals && is_told (suc n)) (listed_line (suc n))) =
      subst (λ (t : Terminals). Says contents mid new (line_if (shows_progress t && is_told (suc n)) (listed_line (suc n)))) first.same_terminals last in
      subst (Says contents old new) (wanted_both (shows_progress old.terminals) (is_told (suc n)) (listed_lines n) (listed_line (suc n)))
      (says_both contents old mid new (line_if (shows_progress old.terminals) (listed_lines n))
      (line_if (shows_progress old.terminals && is_told (suc n)) (listed_line (suc n))) first said)
