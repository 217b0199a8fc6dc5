use Rattle.std.proofs.Common.{◌≡◌, [], ◌∷◌, ◌++◌, length, map, get_or, Ok, Some, None, All, Less, refl, sym, ap, ap₂, subst, ◌∙◌, rules}
use Rattle.std.specs.List.{slice_split}
use borrow.Author.Tests.{tests}
use Rattle.std.proofs.lemmas.Bool.{false≢true}
use Rattle.std.proofs.lemmas.List.{map_push}
use Rattle.std.proofs.lemmas.Iterator.Consumers.{YieldsList-at}
use Rattle.std.proofs.lemmas.Iterator.Splits.{YieldsList-from_slice_split}
use Rattle.s39_lists.proofs.Loops.{turn, ended}
use Rattle.s39_set.specs.Names.{Name, name_cmp, AreNames}
use Rattle.s39_set.specs.Written.{name_text}
use Rattle.s39_set.proofs.NamesBefore.{are_names_push}
use Rattle.s39_set.proofs.NameText.{same_name}
use Rattle.s39_set.proofs.WrittenNames.{is_plus, written_from_parts, same_written, next_name}
use Rattle.s39_set.proofs.cursor.parse_names.Goals as goal

pub returns-in_default-clause-only : goal.returns-in_default-clause-only
returns-in_default-clause-only c = λ names is.
    let now = turn _ _ _ _ _ _ c.loop-name.yielded_by c.in-Some.is c.next.ensures.steps
    (slice_split is_plus c.args.text.now)
    (YieldsList-at c.into_iter-name-iterator.ensures.into_iter_gives
    (YieldsList-from_slice_split _ is_plus c.args.text.now c.split-name-items.ensures.rest c.split-name-items.ensures.done c.split-name-items.ensures.closure
    (λ x b q k. search (rules, tests)))) in
    let next = next_name c.args.text.now c.in-Some.name.now c.loop-name.quorum names _ is c.loop-name.invariant.are_names
    (c.loop-name.invariant.texts ∙ now.0) now.1 now.2 in
    let none : None ≡ Some (get_or names (length (map (λ w. w.now) c.loop-name.yielded)) (0, 0)) = c.in_default.ensures.only _ next.text in
    absurd (cc)

pub returns-then-not-is_before-clause-only : goal.returns-then-not-is_before-clause-only
returns-then-not-is_before-clause-only c = λ names is.
    let now = turn _ _ _ _ _ _ c.loop-name.yielded_by c.in-Some.is c.next.ensures.steps
    (slice_split is_plus c.args.text.now)
    (YieldsList-at c.into_iter-name-iterator.ensures.into_iter_gives
    (YieldsList-from_slice_split _ is_plus c.args.text.now c.split-name-items.ensures.rest c.split-name-items.ensures.done c.split-name-items.ensures.closure
    (λ x b q k. search (rules, tests)))) in
    let next = next_name c.args.text.now c.in-Some.name.now c.loop-name.quorum names _ is c.loop-name.invariant.are_names
    (c.loop-name.invariant.texts ∙ now.0) now.1 now.2 in
    let read : Name = (c.in-Some-parse_name.group, c.in-Some-parse_name.member) in
    let same = same_name c.in-Some.name.now read
    (get_or names (length (map (λ w. w.now) c.loop-name.yielded)) (0, 0)) c.in-Some-parse_name.ensures.name next.text in
    absurd (false≢true (c.if-not-is_before.ensures.1 (subst (λ name. All (λ earlier. name_cmp earlier name ≡ Less) c.loop-name.quorum) (sym same) next.later)))

pub loop-name-preserved : goal.loop-name-preserved
loop-name-preserved c =
    let is = c.in-Some-parse_name.ensures.name in
    let read : Name = (c.in-Some-parse_name.group, c.in-Some-parse_name.member) in
    record {
      can_next = search rules;
      is_finite = search rules;
      texts =
          ap (map name_text) c.push.ensures ∙ map_push name_text c.loop-name.quorum read
          ∙ ap₂ (λ xs x. xs ++ x ∷ []) c.loop-name.invariant.texts (sym is.text_is)
          ∙ sym (map_push (λ part. part.now) c.loop-name.yielded c.in-Some.name);
      are_names = subst AreNames (sym c.push.ensures)
          (are_names_push c.loop-name.quorum read c.loop-name.invariant.are_names is.group is.member (c.if-not-is_before.ensures.0 refl));
    }

pub returns-clause-names : goal.returns-clause-names
returns-clause-names c =
    let whole = ended _ _ _ _ _ c.loop-name.yielded_by c.in-None.is c.next.ensures.steps
    (slice_split is_plus c.args.text.now)
    (YieldsList-at c.into_iter-name-iterator.ensures.into_iter_gives
    (YieldsList-from_slice_split _ is_plus c.args.text.now c.split-name-items.ensures.rest c.split-name-items.ensures.done c.split-name-items.ensures.closure
    (λ x b q k. search (rules, tests)))) in
    written_from_parts c.args.text.now c.loop-name.quorum c.loop-name.invariant.are_names (c.loop-name.invariant.texts ∙ whole)

pub returns-clause-only : goal.returns-clause-only
returns-clause-only c = λ names is.
    let whole = ended _ _ _ _ _ c.loop-name.yielded_by c.in-None.is c.next.ensures.steps
    (slice_split is_plus c.args.text.now)
    (YieldsList-at c.into_iter-name-iterator.ensures.into_iter_gives
    (YieldsList-from_slice_split _ is_plus c.args.text.now c.split-name-items.ensures.rest c.split-name-items.ensures.done c.split-name-items.ensures.closure
    (λ x b q k. search (rules, tests)))) in
    ap Ok (same_written c.args.text.now c.loop-name.quorum names
    (written_from_parts c.args.text.now c.loop-name.quorum c.loop-name.invariant.are_names (c.loop-name.invariant.texts ∙ whole)) is)
