use Rattle.std.proofs.Common.{◌<◌, length, take, All, sym, ap, subst, arith}
use Rattle.std.proofs.lemmas.List.{length-take, take_more_set}
use Rattle.std.proofs.lemmas.List.Elements.{All-push}
use Rattle.s39_words.specs.Share.{IsShare}
use Rattle.s39_backup.proofs.created.Created.push.Goals as goal

pub invariant_of-self : goal.invariant_of-self
invariant_of-self c =
    let len = c.self.inside.len in
    let slots = c.self.inside.slots in
    let seen = ap length c.self.view_is in
    let short = length-take len slots in
    let below : len < length slots = omega arith in (
      omega arith,
      subst (All IsShare) (sym (take_more_set slots len c.args.share below))
          (All-push IsShare (take len slots) c.args.share c.self.invariant.1 c.fields.ensures.in_range),
    )
