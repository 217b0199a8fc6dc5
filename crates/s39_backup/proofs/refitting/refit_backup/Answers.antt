use Rattle.std.proofs.Common.{◌≡◌, ◌+◌, ◌==◌, ◌++◌, length, get_or, take, All, sym, ap, ap₂, subst}
use Rattle.std.proofs.Common.{◌∙◌, arith}
use Rattle.std.proofs.lemmas.List.{length-take-le}
use Rattle.std.proofs.lemmas.List.Elements.{All-filter}
use Rattle.s39_split.specs.Shares.{bytes_of}
use Rattle.s39_set.specs.Names.{names_in_group}
use Rattle.s39_set.proofs.MembersOf.{names_in_group-group}
use Rattle.s39_backup.specs.Plan.{IsNameOfPlan}
use Rattle.s39_backup.specs.TwoShort.{held_groups}
use Rattle.s39_backup.specs.Correspondence.{CorrespondAtLevel, CorrespondInEach}
use Rattle.s39_backup.specs.Refitting.{AreKept}
use Rattle.s39_backup.proofs.Creating.{two_bytes}
use Rattle.s39_backup.proofs.HeldGroups.{held-ascending, held-below, member-below}
use Rattle.s39_backup.proofs.refitting.refit_backup.Goals as goal

pub refit_level-requires-clause-kept : goal.refit_level-requires-clause-kept
refit_level-requires-clause-kept c =
    let names = c.args.names.now in
    let groups = c.args.plan.now.groups.items in
    let view = c.as_slice-groups.result.now in
    let held : c.as_slice.result.now ≡ held_groups names groups =
    c.as_slice.ensures.value ∙ c.held_groups-held.ensures ∙ ap (held_groups names) c.as_slice-groups.ensures.value in
    let number : length view ≡ length groups = ap length c.as_slice-groups.ensures.value in
    let long = c.default-shares.ensures.long in
    let count : length (take (length view) c.default-shares.result) ≡ length groups =
    length-take-le (length view) c.default-shares.result (omega arith) ∙ number in
    subst (AreKept c.args.plan.now.group_threshold (length (take (length view) c.default-shares.result))) (sym held)
    (record {
      ascending = held-ascending names groups;
      below = λ k d within. let below = held-below names groups k d within in omega (arith, count);
      few = c.requires.two_short.few;
    })

pub refit_groups-requires-clause-of_plan : goal.refit_groups-requires-clause-of_plan
refit_groups-requires-clause-of_plan c i d within k e inside =
    let names = c.args.names.now in
    let groups = c.args.plan.now.groups.items in
    let view = c.as_slice-groups.result.now in
    let of_plan = subst (λ gs. All (IsNameOfPlan gs) names) (sym c.as_slice-groups.ensures.value) c.requires.two_short.of_plan in
    let here : 0 + i ≡ i = omega arith in
    member-below view (get_or (names_in_group (0 + i) names) k e) i d
    (All-filter (λ name. name.0 == 0 + i) (IsNameOfPlan view) names of_plan k e inside)
    (names_in_group-group (0 + i) names k e inside ∙ here) within

pub returns : goal.returns
returns c =
    let names = c.args.names.now in
    let threshold = c.args.plan.now.group_threshold in
    let groups = c.args.plan.now.groups.items in
    let view = c.as_slice-groups.result.now in
    let id = c.split_at_mut-id.result.0.now in
    let piece = c.split_at_mut-piece.result.0.now in
    let fitted = c.refit_level.new.random in
    let built = c.refit_groups.ensures in
    let encrypted = c.encrypt-encrypted.result.items in
    let other = c.encrypt-other_encrypted.result.items in
    let shares = bytes_of c.refit_level.new.shares in
    let others = bytes_of c.refit_level.new.others in
    let number : length view ≡ length groups = ap length c.as_slice-groups.ensures.value in
    let long = c.default-shares.ensures.long in
    let count : length (take (length view) c.default-shares.result) ≡ length groups =
    length-take-le (length view) c.default-shares.result (omega arith) ∙ number in
    let held : c.as_slice.result.now ≡ held_groups names groups =
    c.as_slice.ensures.value ∙ c.held_groups-held.ensures ∙ ap (held_groups names) c.as_slice-groups.ensures.value in
    let two = two_bytes id c.split_at_mut-id.ensures.front_len in
    record {
      high = get_or id 0 0;
      low = get_or id 1 0;
      group_piece = piece;
      fitted_piece = fitted;
      pieces = built.pieces;
      fitted_pieces = built.fitted_pieces;
      params = c.params_from-params.result;
      encrypted = encrypted;
      other_encrypted = other;
      group_shares = shares;
      other_shares = others;
      consumed = c.split_at_mut-id.ensures.value
          ∙ ap₂ (λ xs ys. xs ++ ys) two (c.split_at_mut-piece.ensures.value ∙ ap (λ ys. piece ++ ys) built.consumed);
      fitted_consumed = ap₂ (λ xs ys. xs ++ ys) two (ap (λ ys. fitted ++ ys) built.fitted_consumed);
      params_are = c.params_from-params.ensures;
      encryption = c.encrypt-encrypted.ensures.value;
      other_encryption = c.encrypt-other_encrypted.ensures.value;
      levels = subst (λ kept. CorrespondAtLevel threshold (length groups) encrypted other kept piece fitted shares others) held
          (subst (λ n. CorrespondAtLevel threshold n encrypted other c.as_slice.result.now piece fitted shares others) count c.refit_level.ensures.levels);
      each = subst (λ gs. CorrespondInEach names 0 gs shares others built.pieces built.fitted_pieces) c.as_slice-groups.ensures.value built.each;
    }
