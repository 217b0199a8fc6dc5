use Rattle.std.proofs.Common.{rules, ◌≡◌, subst, sym, arith}
use Rattle.std.proofs.lemmas.List.{get_or_default}
use Rattle.s39_words.specs.Share.{IsValue}
use Rattle.s39_backup.proofs.creation.share_of.Goals as goal

pub unwrap-requires-2 : goal.unwrap-requires-2
unwrap-requires-2 c =
    let valued : c.unwrap.result.items ≡ c.args.value.now = search rules in
    let header = c.args.header.now.is_header in
    let few = c.requires.members.enough.few in
    let enough = c.requires.members.enough.enough in
    let positive = c.requires.members.positive in
    let groups_few = header.few in
    let groups_enough = header.enough in
    let groups_positive = header.positive in
    c.new.ensures.in_range.1 (record {
      id = c.args.header.now.params.id_in_range;
      exponent = c.args.header.now.params.exponent_in_range;
      group_index = c.requires.group;
      group_threshold = header.positive;
      threshold_in_count = header.enough;
      group_count = header.few;
      member_index = c.requires.member;
      member_threshold = omega arith;
      member_threshold_in_range = omega arith;
      value = subst IsValue (sym valued)
          (record {
            bytes = λ k d below.
                let same = get_or_default c.args.value.now k d 0 below in
                let fits = c.type_inv.value k in
                omega arith;
            count = c.requires.value;
          });
    })
