-- Shares of one created backup never refuse one another.
use Rattle.std.proofs.Common.{◌≡◌, ℕ, ◌+◌, List, length, get_or, All, Contains, Some, sym, ap, ◌∙◌, subst, arith}
use Rattle.std.specs.List.{slice_get}
use Rattle.std.proofs.lemmas.List.Elements.{All-contains}
use Rattle.std.proofs.lemmas.Option.{slice_get_within, get_or_from_slice_get}
use Rattle.s39_split.specs.Sharing.{SharesAreAsLong}
use Rattle.s39_words.specs.declared.share.ShareFields.{ShareFields}
use Rattle.s39_set.specs.Names.{Name}
use Rattle.s39_set.specs.ShareSet.{Agrees, CanJoin, name_of}
use Rattle.s39_backup.specs.declared.plan.Members.{Members}
use Rattle.s39_backup.specs.Created.{IsCreatedFrom, AreOfBackup, asked_for}
use Rattle.s39_lists.proofs.Finds.{some_same}
use Rattle.s39_backup.proofs.Promise.{IsCreatedShare, in_created_groups, split_at_place}

-- what holds of each element holds of the one at a place
pub All-at : {X : Type 0} (P : X → Type 0) (xs : List X) (k : ℕ) (x : X) → All P xs → slice_get xs k ≡ Some x → P x
All-at P xs k x all at = subst P (get_or_from_slice_get xs k x x at) (all k x (slice_get_within xs k x at))

module _ (set : List ShareFields) (passphrase secret : List ℕ) (backup : AreOfBackup set passphrase secret) (as_long : SharesAreAsLong) where
  abbrev created : IsCreatedFrom (asked_for secret passphrase backup.group_threshold backup.groups backup.options) backup.random backup.shares
  created = backup.created

  abbrev IsOne : ShareFields → Type 0
  IsOne share = IsCreatedShare created.params backup.group_threshold (length backup.groups) backup.groups created.values 0 share

  -- each is one of the created shares
  one_of : (share : ShareFields) → Contains set share → IsOne share
  one_of share among =
      in_created_groups created.params backup.group_threshold (length backup.groups) backup.groups created.values 0 share
      (subst (λ xs. Contains xs share) created.shares_are (All-contains (Contains backup.shares) set share backup.belong among))

  -- values are as long as the encrypted secret
  pub long : (share : ShareFields) → IsOne share → length share.value.items ≡ length created.encrypted
  long share is =
      let at = split_at_place backup.groups created.group_shares created.pieces created.values is.place is.members is.others created.members_split
      is.group_is is.values_are in
      ap (λ (s : ShareFields). length s.value.items) is.share_is
      ∙ All-at (λ value. length value ≡ length at.share) is.others is.member is.value
      (as_long is.members.threshold is.members.count at.share at.piece is.others at.split) is.value_is
      ∙ All-at (λ share. length share ≡ length created.encrypted) created.group_shares is.place at.share
      (as_long backup.group_threshold (length backup.groups) created.encrypted created.group_piece created.group_shares created.groups_split) at.share_is

  same_place : (s t : ShareFields) (is : IsOne s) (it : IsOne t) → s.group_index ≡ t.group_index → is.place ≡ it.place
  same_place s t is it groups =
      let first : s.group_index ≡ 0 + is.place = ap (λ (x : ShareFields). x.group_index) is.share_is in
      let second : t.group_index ≡ 0 + it.place = ap (λ (x : ShareFields). x.group_index) it.share_is in
      omega arith

  same_members : (s t : ShareFields) (is : IsOne s) (it : IsOne t) → is.place ≡ it.place → is.members ≡ it.members
  same_members s t is it places = some_same is.members it.members (sym is.group_is ∙ ap (slice_get backup.groups) places ∙ it.group_is)

  two_agree : (s t : ShareFields) → IsOne s → IsOne t → Agrees s t
  two_agree s t is it = record {
    id = ap (λ (x : ShareFields). x.id) is.share_is ∙ sym (ap (λ (x : ShareFields). x.id) it.share_is);
    extendable = ap (λ (x : ShareFields). x.extendable) is.share_is ∙ sym (ap (λ (x : ShareFields). x.extendable) it.share_is);
    exponent = ap (λ (x : ShareFields). x.exponent) is.share_is ∙ sym (ap (λ (x : ShareFields). x.exponent) it.share_is);
    group_threshold = ap (λ (x : ShareFields). x.group_threshold) is.share_is ∙ sym (ap (λ (x : ShareFields). x.group_threshold) it.share_is);
    group_count = ap (λ (x : ShareFields). x.group_count) is.share_is ∙ sym (ap (λ (x : ShareFields). x.group_count) it.share_is);
    value_length = long s is ∙ sym (long t it);
    member_threshold = λ groups.
        ap (λ (x : ShareFields). x.member_threshold) is.share_is
        ∙ ap (λ (m : Members). m.threshold) (same_members s t is it (same_place s t is it groups))
        ∙ sym (ap (λ (x : ShareFields). x.member_threshold) it.share_is);
  }

  one_value : (s t : ShareFields) → IsOne s → IsOne t → name_of s ≡ name_of t → s.value.items ≡ t.value.items
  one_value s t is it names =
      let places = same_place s t is it (ap (λ (n : Name). n.0) names) in
      let members : is.member ≡ it.member =
      sym (ap (λ (x : ShareFields). x.member_index) is.share_is) ∙ ap (λ (n : Name). n.1) names ∙ ap (λ (x : ShareFields). x.member_index) it.share_is in
      let others : is.others ≡ it.others = some_same is.others it.others (sym is.values_are ∙ ap (slice_get created.values) places ∙ it.values_are) in
      let values : Some is.value ≡ Some it.value = sym is.value_is ∙ ap (λ vs. slice_get vs is.member) others ∙ ap (slice_get it.others) members
      ∙ it.value_is in
      ap (λ (x : ShareFields). x.value.items) is.share_is ∙ some_same is.value it.value values ∙ sym (ap (λ (x : ShareFields). x.value.items) it.share_is)

  pub can_join : (earlier : List ShareFields) (share : ShareFields) → All (Contains set) earlier → Contains set share → CanJoin earlier share
  can_join earlier share belong among = record {
    agrees = λ k d below. two_agree (get_or earlier k d) share (one_of (get_or earlier k d) (belong k d below)) (one_of share among);
    same_value = λ k d below. one_value (get_or earlier k d) share (one_of (get_or earlier k d) (belong k d below)) (one_of share among);
  }
