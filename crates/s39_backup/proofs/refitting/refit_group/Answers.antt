use Rattle.std.proofs.Common.{◌≡◌, ◌-◌, ◌<◌, true, false, length, map, take, refl, sym, ap, subst, ◌∙◌, arith}
use Rattle.std.proofs.lemmas.List.{length-map, length-take-le, get_or_default}
use Rattle.std.proofs.lemmas.List.Elements.{All-map}
use Rattle.s39_kdf.specs.Bytes.{AreBytes}
use Rattle.s39_split.specs.Shares.{bytes_of}
use Rattle.s39_split.specs.Sharing.{random_needed, IsSplit}
use Rattle.s39_split.proofs.SplitLaws.{have_a_split}
use Rattle.s39_set.specs.Names.{names_in_group}
use Rattle.s39_backup.specs.Correspondence.{StayTheSame}
use Rattle.s39_backup.specs.Refitting.{AreKept}
use Rattle.s39_backup.proofs.HeldGroups.{members-ascending, not_less}
use Rattle.s39_backup.proofs.refitting.refit_group.Goals as goal

pub returns-then-is_held : goal.returns-then-is_held
returns-then-is_held c =
    let members = c.args.members in
    let share = c.args.share.now.items in
    let other = c.args.other.now.items in
    let random = c.args.random.now in
    let long = c.requires.length.1 in
    let bytes : AreBytes random = λ k d below.
    let same = get_or_default random k d 0 below in
    let fits = c.type_inv.random k in
    omega arith in
    let group = c.requires.group in
    let needed : length random ≡ random_needed members.threshold (length other) =
    c.requires.random ∙ ap (random_needed members.threshold) (sym c.requires.one_length) in
    let (values, split) = have_a_split members.threshold members.count share random group.positive group.enough.enough group.enough.few
    (omega arith) (subst AreBytes c.as_slice.ensures.value c.are_bytes.ensures) bytes c.requires.random in
    let (others, refitted) = have_a_split members.threshold members.count other random group.positive group.enough.enough group.enough.few
    (omega (arith, c.requires.one_length)) (subst AreBytes c.as_slice-then-is_held.ensures.value c.are_bytes-then-is_held.ensures) bytes needed in
    record {
      values = values;
      others = others;
      split = split;
      refitted = refitted;
      held = λ _. refl;
      stay = λ other. absurd (let is : true ≡ false = sym c.if-is_held.true ∙ c.is_held.ensures ∙ other in cc);
    }

pub refit_level-requires-clause-kept : goal.refit_level-requires-clause-kept
refit_level-requires-clause-kept c =
    let names = names_in_group c.args.group c.args.names.now in
    let is : c.as_slice-2.result.now ≡ map (λ name. name.1) names = c.as_slice-2.ensures.value ∙ c.members_among-kept.ensures in
    let room = c.requires.group.enough.few in
    let long = c.default-values.ensures.long in
    let count : length (take c.from.result c.default-values.result) ≡ c.args.members.count =
    length-take-le c.from.result c.default-values.result (omega arith) ∙ omega arith in
    subst (AreKept c.args.members.threshold (length (take c.from.result c.default-values.result))) (sym is)
    (record {
      ascending = members-ascending c.args.names.now c.args.group c.requires.names.ascending;
      below = All-map (λ i. i < length (take c.from.result c.default-values.result)) (λ name. name.1) names
          (λ k d within. let less = c.requires.of_plan k d within in omega (arith, count));
      few = let few = not_less (c.args.members.threshold - 2) (length names) (sym c.is_held.ensures ∙ c.if-is_held.false) in
          omega (arith, length-map names (λ name. name.1));
    })

pub returns : goal.returns
returns c =
    let members = c.args.members in
    let names = names_in_group c.args.group c.args.names.now in
    let is : c.as_slice-2.result.now ≡ map (λ name. name.1) names = c.as_slice-2.ensures.value ∙ c.members_among-kept.ensures in
    let room = c.requires.group.enough.few in
    let long = c.default-values.ensures.long in
    let count : length (take c.from.result c.default-values.result) ≡ members.count =
    length-take-le c.from.result c.default-values.result (omega arith) ∙ omega arith in
    let levels = c.refit_level.ensures.levels in
    let values = bytes_of c.refit_level.new.shares in
    let others = bytes_of c.refit_level.new.others in
    record {
      values = values;
      others = others;
      split = subst (λ n. IsSplit members.threshold n c.args.share.now.items c.args.random.now values) count levels.split;
      refitted = subst (λ n. IsSplit members.threshold n c.args.other.now.items c.refit_level.new.random others) count levels.refitted;
      held = λ other. absurd (let is : true ≡ false = sym other ∙ sym c.is_held.ensures ∙ c.if-is_held.false in cc);
      stay = λ _. subst (λ kept. StayTheSame members.threshold c.args.share.now.items kept c.args.random.now c.refit_level.new.random values others)
          is levels.stay;
    }
