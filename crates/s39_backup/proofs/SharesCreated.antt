-- The shares of a created backup have their fields in range.
use Rattle.std.proofs.Common.{◌≡◌, ℕ, ◌<◌, List, [], ◌∷◌, ◌++◌, length, get_or, All, Contains, sym, ap, ◌∙◌, subst, arith}
use Rattle.std.specs.List.{concat}
use Rattle.std.proofs.lemmas.List.Elements.{All-nil, All-cons, All-head, All-tail, All-contains_itself, Contains-get_or}
use Rattle.std.proofs.lemmas.Option.{slice_get_within}
use Rattle.s39_kdf.specs.Bytes.{AreBytes}
use Rattle.s39_kdf.specs.Limits.{IsSecretLength}
use Rattle.s39_kdf.specs.Cipher.{EncryptionKeepsLengthAndBytes}
use Rattle.s39_split.specs.Sharing.{SharesAreAsLong, SharesAreBytes}
use Rattle.s39_words.specs.declared.share.ShareFields.{ShareFields}
use Rattle.s39_words.specs.Share.{IsShare}
use Rattle.s39_lists.proofs.Orders.{All-append_left, All-append_right}
use Rattle.s39_backup.specs.declared.plan.Members.{Members}
use Rattle.s39_backup.specs.Plan.{IsPlan, IsGroup}
use Rattle.s39_backup.specs.Created.{Asked, AreSplitAmong, IsCreatedFrom, AreOfBackup}
use Rattle.s39_backup.proofs.Promise.{IsCreatedShare, in_created_groups, split_at_place}
use Rattle.s39_backup.proofs.Agreeing.{All-at, long}

-- the values of all groups' members consist of bytes
bytes_among : SharesAreBytes → (groups : List Members) (shares pieces : List (List ℕ)) (values : List (List (List ℕ)))
    → AreSplitAmong groups shares pieces values → All AreBytes shares → AreBytes (concat pieces) → All (All AreBytes) values
bytes_among are_bytes [] [] [] [] split bytes random = All-nil (All AreBytes)
bytes_among are_bytes (g ∷ gs) (s ∷ ss) (p ∷ ps) (v ∷ vs) split bytes random =
    All-cons (All AreBytes) v vs
    (are_bytes g.threshold g.count s p v split.0 (All-head AreBytes s ss bytes) (All-append_left (λ b. b < 256) p (concat ps) random))
    (bytes_among are_bytes gs ss ps vs split.1 (All-tail AreBytes s ss bytes) (All-append_right (λ b. b < 256) p (concat ps) random))
bytes_among are_bytes gs ss ps vs split bytes random = absurd split

module _ (as_long : SharesAreAsLong) (are_bytes : SharesAreBytes) (keeps : EncryptionKeepsLengthAndBytes)
    (asked : Asked) (random : List ℕ) (shares : List ShareFields) (plan : IsPlan asked.group_threshold asked.groups)
    (so_long : IsSecretLength (length asked.secret)) (bytes : AreBytes asked.secret) (random_bytes : AreBytes random)
    (created : IsCreatedFrom asked random shares) where
  abbrev secret : List ℕ
  secret = asked.secret

  abbrev passphrase : List ℕ
  passphrase = asked.passphrase

  abbrev group_threshold : ℕ
  group_threshold = asked.group_threshold

  abbrev groups : List Members
  groups = asked.groups

  values_bytes : All (All AreBytes) created.values
  values_bytes =
      let levels : AreBytes (created.group_piece ++ concat created.pieces) =
      All-tail (λ b. b < 256) created.low (created.group_piece ++ concat created.pieces)
      (All-tail (λ b. b < 256) created.high (created.low ∷ created.group_piece ++ concat created.pieces) (subst AreBytes created.consumed random_bytes)) in
      bytes_among are_bytes groups created.group_shares created.pieces created.values created.members_split
      (are_bytes group_threshold (length groups) created.encrypted created.group_piece created.group_shares created.groups_split
      ((keeps passphrase created.params secret created.encrypted created.encryption).1 bytes)
      (All-append_left (λ b. b < 256) created.group_piece (concat created.pieces) levels))
      (All-append_right (λ b. b < 256) created.group_piece (concat created.pieces) levels)

  abbrev backup : AreOfBackup shares passphrase secret
  backup = record {
    group_threshold = group_threshold;
    groups = groups;
    options = asked.options;
    random = random;
    shares = shares;
    is_plan = plan;
    created = created;
    belong = All-contains_itself shares;
  }

  is_share : (share : ShareFields) → IsCreatedShare created.params group_threshold (length groups) groups created.values 0 share → IsShare share
  is_share share is =
      let at = split_at_place groups created.group_shares created.pieces created.values is.place is.members is.others created.members_split
      is.group_is is.values_are in
      let group : IsGroup is.members = All-at IsGroup groups is.place is.members plan.each is.group_is in
      let place = slice_get_within groups is.place is.members is.group_is in
      let member = slice_get_within is.others is.member is.value is.value_is in
      let number = at.split.number in
      let most = group.enough.few in
      let enough = group.enough.enough in
      let few = plan.enough.few in
      let same : length is.value ≡ length secret =
      sym (ap (λ (s : ShareFields). length s.value.items) is.share_is) ∙ long shares passphrase secret backup as_long share is
      ∙ (keeps passphrase created.params secret created.encrypted created.encryption).0 in
      subst IsShare (sym is.share_is) (record {
        id = created.params.id_in_range;
        exponent = created.params.exponent_in_range;
        group_index = omega arith;
        group_threshold = plan.positive;
        threshold_in_count = plan.enough.enough;
        group_count = plan.enough.few;
        member_index = omega arith;
        member_threshold = group.positive;
        member_threshold_in_range = omega arith;
        value = record {
          bytes = All-at AreBytes is.others is.member is.value (All-at (All AreBytes) created.values is.place is.others values_bytes is.values_are) is.value_is;
          count = subst IsSecretLength (sym same) so_long;
        };
      })

  pub are_shares : All IsShare shares
  are_shares k d below =
      is_share (get_or shares k d)
      (in_created_groups created.params group_threshold (length groups) groups created.values 0 (get_or shares k d)
      (subst (λ xs. Contains xs (get_or shares k d)) created.shares_are (Contains-get_or shares k d below)))
