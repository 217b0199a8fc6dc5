use Rattle.std.proofs.Common.{get_or, length, ◌-◌, ◌<◌, ◌≡◌, All, Less, ap, sym, subst, ◌∙◌, arith}
use Rattle.s39_set.specs.Names.{name_cmp}
use Rattle.s39_set.proofs.NamesBefore.{all_before}
use Rattle.s39_set.proofs.quorum.Quorum.is_before.Goals as goal

pub returns-in-Some : goal.returns-in-Some
returns-in-Some c =
    let names = c.self.inside.pairs.items in
    let last = c.in-Some.last.now in
    let same = c.deref.ensures.0 in
    let some : 0 < length c.deref.result.now = c.in-Some.ensures.item.3.0 in
    let at : last ≡ get_or c.deref.result.now (length c.deref.result.now - 1) last = c.in-Some.ensures.item.1 in
    let some_names : 0 < length names = subst (λ (ns : _). 0 < length ns) same some in
    let at_names : get_or names (length names - 1) last ≡ last = sym (at ∙ ap (λ ns. get_or ns (length ns - 1) last) same) in (
      λ h. subst (All (λ name. name_cmp name (c.args.group, c.args.member) ≡ Less)) c.self.view_is
          (all_before names last (c.args.group, c.args.member) c.self.invariant.ascending some_names at_names (c.is_earlier.ensures.0 h)),
      λ all. c.is_earlier.ensures.1
          (subst (λ n. name_cmp n (c.args.group, c.args.member) ≡ Less) at_names
          (subst (All (λ name. name_cmp name (c.args.group, c.args.member) ≡ Less)) (sym c.self.view_is) all (length names - 1) last (omega arith))),
    )
