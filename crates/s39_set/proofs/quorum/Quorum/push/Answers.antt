use Rattle.std.proofs.Common.{◌≡◌, ◌≤◌, length, Less, arith}
use Rattle.std.proofs.lemmas.List.Elements.{All-same}
use Rattle.s39_set.specs.Names.{name_cmp}
use Rattle.s39_set.specs.Slots.{slot_of}
use Rattle.s39_set.proofs.NamesBefore.{length_before, are_names_push}
use Rattle.s39_set.proofs.quorum.Quorum.push.Goals as goal

pub push-requires : goal.push-requires
push-requires c =
    let group = c.requires.group in
    let member = c.requires.member in
    let names = c.self.inside.pairs.items in
    let earlier = All-same (λ name. name_cmp name (c.args.group, c.args.member) ≡ Less) names c.args.self.now c.self.view_is c.requires.later in
    let few : length names ≤ slot_of (c.args.group, c.args.member) = length_before names (c.args.group, c.args.member) c.self.invariant earlier in
    omega arith

pub invariant_of-self : goal.invariant_of-self
invariant_of-self c =
    let names = c.self.inside.pairs.items in
    let earlier = All-same (λ name. name_cmp name (c.args.group, c.args.member) ≡ Less) names c.args.self.now c.self.view_is c.requires.later in
    rw c.push.ensures.items (are_names_push names (c.args.group, c.args.member) c.self.invariant c.requires.group c.requires.member earlier)
