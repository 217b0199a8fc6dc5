use Rattle.std.proofs.Common.{◌<◌, ◌∷◌, ◌++◌, [], All, take, get_or, sym, ap, ◌∙◌, subst, append_assoc, arith}
use Rattle.std.proofs.lemmas.List.{take_more}
use Rattle.std.proofs.lemmas.List.Elements.{All-tail}
use Rattle.s39_set.specs.Names.{Name}
use Rattle.s39_set.specs.Written.{name_text, quorum_text}
use Rattle.s39_input.proofs.Texts.Names.{quorum_text-more}
use Rattle.s39_input.proofs.output.push_names.Goals as goal

pub push_name-requires-in-loop-name-clause-group : goal.push_name-requires-in-loop-name-clause-group
push_name-requires-in-loop-name-clause-group c =
    let inv = c.loop-name.invariant in
    All-tail (λ (name : Name). name.0 < 16) inv.first c.in-Some.others.now (subst (All (λ (name : Name). name.0 < 16)) inv.names c.requires.groups)
    c.loop-name.name-index (0, 0) c.loop-name-test.true

pub push_name-requires-in-loop-name-clause-member : goal.push_name-requires-in-loop-name-clause-member
push_name-requires-in-loop-name-clause-member c =
    let inv = c.loop-name.invariant in
    All-tail (λ (name : Name). name.1 < 16) inv.first c.in-Some.others.now (subst (All (λ (name : Name). name.1 < 16)) inv.names c.requires.members)
    c.loop-name.name-index (0, 0) c.loop-name-test.true

pub loop-name-preserved : goal.loop-name-preserved
loop-name-preserved c =
    let inv = c.loop-name.invariant in
    let k = c.push_name-in-loop-name.ensures in
    let so_far = take c.loop-name.name-index c.in-Some.others.now in
    let name = get_or c.in-Some.others.now c.loop-name.name-index (0, 0) in
    let before = c.args.line.now.items in
    let more = take_more c.in-Some.others.now c.loop-name.name-index (0, 0) c.loop-name-test.true in
    record {
      first = inv.first;
      names = inv.names;
      text =
          k.text ∙ ap (λ l. l ++ name_text name) (c.push.ensures.items ∙ ap (λ l. l ++ 43 ∷ []) inv.text)
          ∙ append_assoc (before ++ quorum_text (inv.first ∷ so_far)) (43 ∷ []) (name_text name)
          ∙ append_assoc before (quorum_text (inv.first ∷ so_far)) (43 ∷ name_text name)
          ∙ ap (λ l. before ++ l) (sym (quorum_text-more inv.first so_far name) ∙ ap (λ t. quorum_text (inv.first ∷ t)) (sym more));
      room = let r = k.room in let l = c.push.ensures.len in omega (arith, inv.room);
    }
