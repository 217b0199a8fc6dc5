use Rattle.std.proofs.Common.{rules, ◌≡◌, sym, subst, arith}
use Rattle.std.proofs.lemmas.List.{get_or_default}
use Rattle.s39_kdf.specs.Limits.{IsSecretLength}
use Rattle.s39_words.specs.Share.{IsShare, IsValue}
use Rattle.s39_backup.proofs.missing_share.like.Goals as goal

pub unwrap-requires-2 : goal.unwrap-requires-2
unwrap-requires-2 c =
    let valued : c.unwrap.result.items ≡ c.args.value.now = search rules in
    let read = c.fields-fields.ensures.in_range in
    let is : IsShare c.fields-fields.result.now = subst IsShare (sym c.fields-fields.ensures.fields) read in
    c.new.ensures.in_range.1 (record {
      id = is.id;
      exponent = is.exponent;
      group_index = c.requires.group;
      group_threshold = is.group_threshold;
      threshold_in_count = is.threshold_in_count;
      group_count = is.group_count;
      member_index = c.requires.member;
      member_threshold = c.requires.positive;
      member_threshold_in_range = c.requires.few;
      value = subst IsValue (sym valued)
          (record {
            bytes = λ k d below.
                let same = get_or_default c.args.value.now k d 0 below in
                let fits = c.type_inv.value k in
                omega arith;
            count = subst IsSecretLength (sym c.requires.length) read.value.count;
          });
    })
