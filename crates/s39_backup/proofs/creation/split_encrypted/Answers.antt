use Rattle.std.proofs.Common.{◌≡◌, ℕ, ◌++◌, sym, ap, ap₂, subst, ◌∙◌, arith}
use Rattle.std.proofs.lemmas.List.{take-append-drop}
use Rattle.s39_split.specs.Shares.{bytes_of}
use Rattle.s39_backup.specs.Created.{AreSplitAmong, created_groups}
use Rattle.s39_backup.proofs.creation.split_encrypted.Goals as goal

pub returns : goal.returns
returns c =
    let random = c.args.random.now in
    let piece = c.split_at.result.0.now in
    let built = c.push_groups.ensures in
    let whole : random ≡ piece ++ c.split_at.result.1.now =
    sym (take-append-drop c.random_needed-needed.result random) ∙ ap₂ (λ xs ys. xs ++ ys) (sym c.split_at.ensures.front) (sym c.split_at.ensures.back) in
    record {
      group_piece = piece;
      pieces = built.pieces;
      group_shares = bytes_of c.split.new.out;
      values = built.values;
      consumed = whole ∙ ap (λ ys. piece ++ ys) built.consumed;
      groups_split =
          let split = c.split.ensures.shares in
          let number = split.number in
          record {
            positive = split.positive;
            enough = omega arith;
            few = omega arith;
            number = omega arith;
            one_needed = split.one_needed;
            more_needed = split.more_needed;
          };
      members_split = subst (λ groups. AreSplitAmong groups (bytes_of c.split.new.out) built.pieces built.values) c.deref.ensures.0 built.split;
      shares_are = built.shares_are
          ∙ ap₂ (λ (n : ℕ) groups. created_groups c.args.params c.args.plan.now.group_threshold n 0 groups built.values)
          c.len-3.ensures.value c.deref.ensures.0;
    }
