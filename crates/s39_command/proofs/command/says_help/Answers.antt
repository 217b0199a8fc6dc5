use Rattle.std.proofs.Common.{◌∙◌, ℕ, Bor, List, Some, ap, codes, option_map, sym}
use Rattle.std.proofs.lemmas.Option.{slice_get-get_or, slice_get-map, slice_get_past}
use Rattle.std.proofs.lemmas.Slice.Eq.{bytes_eq-Decides}
use Rattle.s39_command.proofs.command.says_help.Goals as goal

pub returns-in-Some-clause-said : goal.returns-in-Some-clause-said
returns-in-Some-clause-said c said =
    let words = c.args.words.now in
    let word = c.in-Some.word.now in
    let text : Bor (List ℕ) → List ℕ = λ w. w.now in
    let there = slice_get-get_or words 1 word c.in-Some.ensures.lookup.3.0 in
    let is_help = (bytes_eq-Decides word.now (codes "help")).0 (sym c.eq.ensures ∙ said) in
    slice_get-map text words 1 ∙ ap (option_map text) there
    ∙ ap (λ (w : Bor (List ℕ)). Some w.now) (sym (c.in-Some.ensures.lookup.3.1 word)) ∙ ap (λ (t : List ℕ). Some t) is_help

pub returns-in-None-clause-unsaid : goal.returns-in-None-clause-unsaid
returns-in-None-clause-unsaid c _ said =
    let words = c.args.words.now in
    let text : Bor (List ℕ) → List ℕ = λ w. w.now in
    let none = slice_get-map text words 1 ∙ ap (option_map text) (slice_get_past words 1 c.in-None.ensures.lookup.3) in
    cc
