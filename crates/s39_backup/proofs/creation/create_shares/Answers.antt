use Rattle.std.proofs.Common.{◌≡◌, ◌++◌, get_or, sym, ap₂, ◌∙◌}
use Rattle.std.proofs.lemmas.List.{take-append-drop}
use Rattle.s39_backup.proofs.Creating.{two_bytes}
use Rattle.s39_backup.proofs.creation.create_shares.Goals as goal

pub returns : goal.returns
returns c =
    let id = c.split_at.result.0.now in
    let levels = c.split_at.result.1.now in
    let split = c.split_encrypted.ensures in
    let whole : c.args.random.now ≡ id ++ levels =
    sym (take-append-drop 2 c.args.random.now) ∙ ap₂ (λ xs ys. xs ++ ys) (sym c.split_at.ensures.front) (sym c.split_at.ensures.back) in
    record {
      high = get_or id 0 0;
      low = get_or id 1 0;
      group_piece = split.group_piece;
      pieces = split.pieces;
      params = c.params_from-params.result;
      encrypted = c.encrypt-encrypted.result.items;
      group_shares = split.group_shares;
      values = split.values;
      consumed = whole ∙ ap₂ (λ xs ys. xs ++ ys) (two_bytes id c.split_at.ensures.front_len) split.consumed;
      params_are = c.params_from-params.ensures;
      encryption = c.encrypt-encrypted.ensures.value;
      groups_split = split.groups_split;
      members_split = split.members_split;
      shares_are = split.shares_are;
    }
