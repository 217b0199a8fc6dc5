-- Shares one short can rule out a secret.
use Rattle.std.proofs.Common.{◌≡◌, ◌≢◌, ℕ, ◌+◌, ◌%◌, ◌<◌, List, [], ◌∷◌, None, Some, length, get_or, map, All, Contains}
use Rattle.std.proofs.Common.{refl, sym, ap, subst, ◌∙◌, arith, length-append}
use Rattle.std.specs.List.{slice_get}
use Rattle.std.specs.declared.cmp.Ordering.TheVariants.{Less}
use Rattle.std.proofs.lemmas.Bool.Decides.{nat_tests}
use Rattle.std.proofs.lemmas.Option.{slice_get-get_or, slice_get_within}
use Rattle.std.proofs.lemmas.List.{length-map}
use Rattle.std.proofs.lemmas.List.Elements.{All-cons, All-head, All-map}
use Rattle.s39_kdf.specs.declared.params.Params.{Params}
use Rattle.s39_kdf.specs.Bytes.{AreBytes}
use Rattle.s39_kdf.specs.Cipher.{IsEncryption}
use Rattle.s39_kdf.proofs.Rounds.{secrets_have_one_encryption, encryption_keeps_length_and_bytes}
use Rattle.s39_split.specs.Sharing.{secret_place, IsSplit}
use Rattle.s39_split.specs.Recovery.{Combines, AreSharesOf}
use Rattle.s39_split.proofs.Completions.{any_points_complete, shares_are_points}
use Rattle.s39_words.specs.declared.share.ShareFields.{ShareFields}
use Rattle.s39_set.specs.Names.{Name, name_cmp, IsAscending}
use Rattle.s39_set.specs.ShareSet.{name_of}
use Rattle.s39_lists.proofs.Finds.{some_same}
use Rattle.s39_lists.proofs.Pairs.{AllPairs-map, AllPairs-from_map}
use Rattle.s39_backup.specs.declared.plan.Members.{Members}
use Rattle.s39_backup.specs.Created.{Asked, AreSplitAmong, IsCreatedFrom}
use Rattle.s39_backup.specs.Outcome.{AreParams}
use Rattle.s39_backup.specs.InCommon.{for_secret}
use Rattle.s39_backup.proofs.OneRecovery.{same_params}
use Rattle.s39_backup.proofs.Promise.{IsCreatedShare, in_created_groups}
use Rattle.s39_secrecy.specs.Secrecy.{Give, member_points}
use Rattle.s39_secrecy.proofs.Back.{encrypted_once}

-- shares of one level and a secret at its place that don't combine are of no split of it
pub of_no_split : (threshold count : ℕ) (secret random : List ℕ) (shares : List (List ℕ)) (known : List (ℕ × List ℕ)) → AreBytes secret
    → All (λ share. AreBytes share.1) known → length known + 1 ≡ threshold → Combines threshold ((secret_place, secret) ∷ known) None
    → IsSplit threshold count secret random shares → AreSharesOf shares known → ⊥
of_no_split threshold count secret random shares known of_secret of_known number refused split among =
    let points = (shares_are_points threshold count secret random shares known split among).1 in
    let enough = split.enough in
    let positive = split.positive in
    let share = get_or shares 0 [] in
    let at = slice_get-get_or shares 0 [] (omega (arith, split.number)) in
    let all = All-cons (λ point. AreBytes point.1) (secret_place, secret) known of_secret of_known in
    let complete = any_points_complete threshold count secret random shares ((secret_place, secret) ∷ known) 0 share all split points
    (omega (arith, number)) at in
    absurd (let none : None ≡ Some share = complete.1 None refused in cc)

-- the split of the one group
record HaveSplitOf (members : Members) (secret : List ℕ) (values : List (List (List ℕ))) : Type 0 where
  pub piece : List ℕ
  pub shares : List (List ℕ)
  pub split : IsSplit members.threshold members.count secret piece shares
  pub at : slice_get values 0 ≡ Some shares

split_of : (members : Members) (secret : List ℕ) (shares pieces : List (List ℕ)) (values : List (List (List ℕ)))
    → All (λ share. share ≡ secret) shares → AreSplitAmong (members ∷ []) shares pieces values → HaveSplitOf members secret values
split_of members secret [] pieces values each split = absurd split
split_of members secret (s ∷ ss) [] values each split = absurd split
split_of members secret (s ∷ ss) (p ∷ ps) [] each split = absurd split
split_of members secret (s ∷ ss) (p ∷ ps) (v ∷ vs) each split = record {
  piece = p;
  shares = v;
  split = subst (λ x. IsSplit members.threshold members.count x p v) (All-head (λ share. share ≡ secret) s ss each) split.0;
  at = refl;
}

later : (a b : Name) → a.0 ≡ b.0 → name_cmp a b ≡ Less → a.1 < b.1
later a b same less = grind (arith, nat_tests)

module _ (asked : Asked) (members : Members) (random : List ℕ) (shares : List ShareFields) (created : IsCreatedFrom asked random shares)
    (one : asked.groups ≡ members ∷ []) (have : HaveSplitOf members created.encrypted created.values) where
  made : (share : ShareFields) → Contains shares share
      → IsCreatedShare created.params asked.group_threshold (length asked.groups) asked.groups created.values 0 share
  made share among =
      in_created_groups created.params asked.group_threshold (length asked.groups) asked.groups created.values 0 share
      (subst (λ xs. Contains xs share) created.shares_are among)

  place_is : (share : ShareFields) (among : Contains shares share) → (made share among).place ≡ 0
  place_is share among =
      let m = made share among in
      let within = slice_get_within asked.groups m.place m.members m.group_is in
      omega (arith, within, ap length one)

  -- each share is one of the group's
  is_of_group : (share : ShareFields) → Contains shares share → slice_get have.shares share.member_index ≡ Some share.value.items
  is_of_group share among =
      let m = made share among in
      let others : m.others ≡ have.shares =
      some_same m.others have.shares (sym m.values_are ∙ ap (slice_get created.values) (place_is share among) ∙ have.at) in
      let index : share.member_index ≡ m.member = ap (λ (s : ShareFields). s.member_index) m.share_is in
      let value : share.value.items ≡ m.value = ap (λ (s : ShareFields). s.value.items) m.share_is in
      ap (slice_get have.shares) index ∙ ap (λ xs. slice_get xs m.member) (sym others) ∙ m.value_is ∙ ap Some (sym value)

  group_0 : (share : ShareFields) → Contains shares share → share.group_index ≡ 0
  group_0 share among =
      let index = ap (λ (s : ShareFields). s.group_index) (made share among).share_is in
      let place = place_is share among in
      omega (arith, index, place)

  are_shares_of : (some : List ShareFields) → IsAscending (map name_of some) → All (Contains shares) some
      → AreSharesOf have.shares (member_points some)
  are_shares_of some ascending belong = record {
    distinct = AllPairs-map (λ a b. a.0 ≢ b.0) (λ (share : ShareFields). (share.member_index, share.value.items)) some
        (λ i j d before within.
        let a = get_or some i d in
        let b = get_or some j d in
        let less = later (name_of a) (name_of b)
        (group_0 a (belong i d (omega arith)) ∙ sym (group_0 b (belong j d within)))
        (AllPairs-from_map (λ x y. name_cmp x y ≡ Less) name_of some ascending i j d before within) in
        λ same. absurd (omega (arith, less, same)));
    belong = All-map (λ point. slice_get have.shares point.0 ≡ Some point.1) (λ (share : ShareFields). (share.member_index, share.value.items)) some
        (λ k d within. is_of_group (get_or some k d) (belong k d within));
  }

-- the parameters of the shares are those of the backup
params_are : (asked : Asked) (random : List ℕ) (shares some : List ShareFields) (created : IsCreatedFrom asked random shares) (params : Params)
    → AreParams some params → All (Contains shares) some → params ≡ created.params
params_are asked random shares [] created params are belong = absurd are
params_are asked random shares (s ∷ ss) created params are belong =
    let m = in_created_groups created.params asked.group_threshold (length asked.groups) asked.groups created.values 0 s
    (subst (λ xs. Contains xs s) created.shares_are (All-head (Contains shares) s ss belong)) in
    same_params params created.params
    (are.0 ∙ ap (λ (x : ShareFields). x.id) m.share_is)
    (are.1 ∙ ap (λ (x : ShareFields). x.extendable) m.share_is)
    (are.2 ∙ ap (λ (x : ShareFields). x.exponent) m.share_is)

-- members of the only group, one fewer than it needs
pub no_bytes_give : (asked : Asked) (members : Members) (other encrypted : List ℕ) (params : Params) (some : List ShareFields)
    → asked.group_threshold ≡ 1 → asked.groups ≡ members ∷ [] → IsAscending (map name_of some) → length some + 1 ≡ members.threshold
    → AreBytes other → All (λ share. AreBytes share.value.items) some
    → AreParams some params → IsEncryption other asked.passphrase params encrypted
    → Combines members.threshold ((secret_place, encrypted) ∷ member_points some) None
    → (random : List ℕ) → Give (for_secret other asked) some random → ⊥
no_bytes_give asked members other encrypted params some threshold one ascending number of_other of_some are encryption refused random given =
    let created = given.created in
    let same : params ≡ created.params = params_are (for_secret other asked) random given.shares some created params are given.belong in
    let whole : length other ≡ length encryption.h0 + length encryption.h1 = ap length encryption.halves ∙ length-append encryption.h0 encryption.h1 in
    let even : length other % 2 ≡ 0 = omega (arith, whole, encryption.same_length) in
    let once : encrypted ≡ created.encrypted =
    encrypted_once secrets_have_one_encryption other asked.passphrase params created.params encrypted created.encrypted even same
    encryption created.encryption in
    let copies = (created.groups_split.one_needed threshold).1 in
    let have = split_of members created.encrypted created.group_shares created.pieces created.values copies
    (subst (λ gs. AreSplitAmong gs created.group_shares created.pieces created.values) one created.members_split) in
    let among = are_shares_of (for_secret other asked) members random given.shares created one have some ascending given.belong in
    of_no_split members.threshold members.count created.encrypted have.piece have.shares (member_points some)
    ((encryption_keeps_length_and_bytes asked.passphrase created.params other created.encrypted created.encryption).1 of_other)
    (All-map (λ point. AreBytes point.1) (λ (share : ShareFields). (share.member_index, share.value.items)) some of_some)
    (let count : length (member_points some) ≡ length some = length-map some (λ (share : ShareFields). (share.member_index, share.value.items)) in
    omega (arith, count, number))
    (subst (λ e. Combines members.threshold ((secret_place, e) ∷ member_points some) None) once refused)
    have.split among
