-- The list that corresponds to one that corresponds to random bytes is these random bytes.
use Rattle.std.proofs.Common.{◌≡◌, ℕ, ◌+◌, ◌-◌, ◌%◌, ◌<◌, ◌≤◌, List, [], ◌∷◌, ◌++◌, length, get_or, take, All, Contains, Some}
use Rattle.std.proofs.Common.{◌⊎◌, inl, inr, refl, sym, ap, ap₂, subst, ◌∙◌, arith}
use Rattle.std.specs.List.{concat, slice_get}
use Rattle.std.proofs.lemmas.Bool.{cases_eq, cases_lt, cases_Bool}
use Rattle.std.proofs.lemmas.List.{length-map, take_at}
use Rattle.std.proofs.lemmas.List.Elements.{All-nil, All-cons, All-head, All-tail, All-map, All-contains, Contains-get_or}
use Rattle.std.proofs.lemmas.Option.{slice_get-get_or}
use Rattle.s39_kdf.specs.declared.params.Params.{Params}
use Rattle.s39_kdf.specs.Limits.{IsSecretLength}
use Rattle.s39_kdf.specs.Cipher.{IsEncryption, SecretsHaveOneEncryption, EncryptionKeepsLengthAndBytes}
use Rattle.s39_split.specs.Shares.{AreDistinct}
use Rattle.s39_split.specs.Sharing.{digest_length, IsSplit, SplitsTakeTheBytesNeeded, SharesAreAsLong, HaveOneSplit}
use Rattle.s39_split.specs.Recovery.{AreSharesOf}
use Rattle.s39_split.proofs.FittedPoints.{AreKnown, one_split_by_known}
use Rattle.s39_set.specs.Names.{Names}
use Rattle.s39_lists.proofs.Decided.{among_or_not}
use Rattle.s39_lists.proofs.Sublists.{Contains-head, Contains-cons, same_from_part}
use Rattle.s39_backup.specs.declared.plan.Members.{Members}
use Rattle.s39_backup.specs.Created.{Asked, identifier_of}
use Rattle.s39_backup.specs.TwoShort.{is_held, held_groups}
use Rattle.s39_backup.specs.Correspondence.{AreSameAt, AreStaying, StayTheSame, CorrespondAtLevel, CorrespondInGroup, CorrespondInEach, Correspond}
use Rattle.s39_backup.proofs.OneRecovery.{same_params}
use Rattle.s39_backup.proofs.Creations.{same_front}
use Rattle.s39_backup.proofs.Chosen.{lent, lent-distinct, lent-indices, lent-lengths}

-- ---- the indices that stay

-- all of these are among those, or one isn't
all_or_one : (xs ys : List ℕ) → All (Contains xs) ys ⊎ ((j : ℕ) × Contains ys j × (Contains xs j → ⊥))
all_or_one xs [] = inl (All-nil (Contains xs))
all_or_one xs (y ∷ ys) = elim (among_or_not cases_eq xs y) [
  | inr not ↦ inr (y, Contains-head y ys, not)
  | inl among ↦ elim (all_or_one xs ys) [
    | inl all ↦ inl (All-cons (Contains xs) y ys among all)
    | inr one ↦ inr (one.0, Contains-cons y ys one.0 one.1, one.2)
  ]
]

less_one_way : (a b : ℕ) → a < b → b < a → ⊥
less_one_way a b less more = absurd (omega (arith, less, more))

module _ (threshold : ℕ) (kept indices others : List ℕ) (a : AreStaying threshold kept indices) (b : AreStaying threshold kept others) where
  -- where one isn't among the others, all the others are among these
  others_among : (j : ℕ) → Contains indices j → (Contains others j → ⊥) → All (Contains indices) others
  others_among j among not k d within =
      let i = get_or others k d in
      let of_others : Contains others i = Contains-get_or others k d within in
      elim (cases_lt i j) [
        | inl less ↦ a.lowest i j less among (λ is_kept. not (All-contains (Contains others) kept j b.among is_kept))
        | inr above ↦ elim (cases_lt j i) [
          | inl more ↦ elim (among_or_not cases_eq kept i) [
            | inl is_kept ↦ All-contains (Contains indices) kept i a.among is_kept
            | inr free ↦ absurd (not (b.lowest j i more of_others free))
          ]
          | inr below ↦
              let same : i ≡ j = omega (arith, above, below) in
              absurd (not (subst (Contains others) same of_others))
        ]
      ]

  pub same_staying : indices ≡ others
  same_staying = elim (all_or_one others indices) [
    | inl all ↦
        sym (same_from_part (λ x y. x < y) less_one_way others indices b.ascending a.ascending all (omega (arith, a.number, b.number)))
    | inr one ↦
        same_from_part (λ x y. x < y) less_one_way indices others a.ascending b.ascending (others_among one.0 one.1 one.2) (omega (arith, a.number, b.number))
  ]

-- ---- the cipher

-- a secret has one encryption
pub encrypted_once : SecretsHaveOneEncryption → (secret passphrase : List ℕ) (params same : Params) (encrypted other : List ℕ) → length secret % 2 ≡ 0
    → params ≡ same → IsEncryption secret passphrase params encrypted → IsEncryption secret passphrase same other → encrypted ≡ other
encrypted_once encrypts_once secret passphrase params same encrypted other even is encryption also =
    let (result, of_result, only) = encrypts_once passphrase params secret even in
    only encrypted encryption
    ∙ sym (only other (subst (λ (p : Params). IsEncryption secret passphrase p other) (sym is) also))

module _ (takes : SplitsTakeTheBytesNeeded) (as_long : SharesAreAsLong) (split_once : HaveOneSplit) where
  -- ---- a level

  module _ (threshold count n : ℕ) (secret other kept random fitted back : List ℕ) (shares others again last : List (List ℕ))
      (secret_long : length secret ≡ n) (other_long : length other ≡ n) (long : digest_length ≤ n)
      (split : IsSplit threshold count secret random shares) (refitted : IsSplit threshold count other fitted others)
      (split_again : IsSplit threshold count other fitted again) (refitted_back : IsSplit threshold count secret back last)
      (there : StayTheSame threshold secret kept random fitted shares others)
      (home : StayTheSame threshold other kept fitted back again last) where
    same_key : take (n - digest_length) random ≡ take (n - digest_length) back
    same_key =
        ap (λ k. take (k - digest_length) random) (sym secret_long) ∙ there.key
        ∙ ap (λ k. take (k - digest_length) fitted) (secret_long ∙ sym other_long) ∙ home.key
        ∙ ap (λ k. take (k - digest_length) back) other_long

    same_shares : (k : ℕ) (d : ℕ) → k < length there.indices
        → slice_get last (get_or there.indices k d) ≡ slice_get shares (get_or there.indices k d)
    same_shares k d within =
        let indices : home.indices ≡ there.indices = same_staying threshold kept home.indices there.indices home.staying there.staying in
        let at_home : AreSameAt there.indices again last = subst (λ is. AreSameAt is again last) indices home.same in
        let once : again ≡ others = split_once threshold count other fitted again others split_again refitted in
        let i = get_or there.indices k d in
        sym (at_home k d within) ∙ ap (λ xs. slice_get xs i) once ∙ sym (there.same k d within)

    by_known : 1 < threshold → random ≡ back
    by_known several =
        let first = split.more_needed (λ one. omega (arith, several, one)) in
        let second = refitted_back.more_needed (λ one. omega (arith, several, one)) in
        let rest = concat (take (threshold - 2) shares) in
        let more = concat (take (threshold - 2) last) in
        let first_long : length first.key ≡ n - digest_length = first.key_length ∙ ap (λ k. k - digest_length) secret_long in
        let second_long : length second.key ≡ n - digest_length = second.key_length ∙ ap (λ k. k - digest_length) secret_long in
        let keys : second.key ≡ first.key =
        sym (take_at second.key more (n - digest_length) second_long) ∙ ap (take (n - digest_length)) (sym second.consumed) ∙ sym same_key
        ∙ ap (take (n - digest_length)) first.consumed ∙ take_at first.key rest (n - digest_length) first_long in
        let known = lent shares there.indices in
        let few = split.few in
        let enough = split.enough in
        let number : length shares ≡ count = split.number in
        let distinct : AreDistinct known = lent-distinct shares there.indices there.staying.ascending in
        let are : AreKnown threshold secret first.key known = record {
          several = several;
          few = omega (arith, few, enough);
          key_length = omega (arith, first_long, secret_long, long);
          number = omega (arith, length-map {B = ℕ × List ℕ} there.indices (λ i. (i, get_or shares i [])), there.staying.number, several);
          distinct = distinct;
          indices = lent-indices shares there.indices _ (λ k d within. let below = there.below k d within in omega (arith, below, number, few));
          lengths = lent-lengths shares there.indices (length secret) there.below (as_long threshold count secret random shares split);
        } in
        let among : AreSharesOf shares known = record {
          distinct = distinct;
          belong = All-map (λ s. slice_get shares s.0 ≡ Some s.1) (λ i. (i, get_or shares i [])) there.indices
              (λ k d within. slice_get-get_or shares (get_or there.indices k d) [] (there.below k d within));
        } in
        let still : AreSharesOf last known = record {
          distinct = distinct;
          belong = All-map (λ s. slice_get last s.0 ≡ Some s.1) (λ i. (i, get_or shares i [])) there.indices
              (λ k d within. same_shares k d within ∙ slice_get-get_or shares (get_or there.indices k d) [] (there.below k d within));
        } in
        one_split_by_known threshold secret first.key known are count random back rest more shares last first.consumed
        (second.consumed ∙ ap (λ k. k ++ more) keys) split refitted_back among still

    pub level_back : random ≡ back
    level_back = elim (cases_lt 1 threshold) [
      | inl several ↦ by_known several
      | inr few ↦
          let positive = split.positive in
          let one : threshold ≡ 1 = omega (arith, positive, few) in
          (split.one_needed one).0 ∙ sym (refitted_back.one_needed one).0
    ]

  -- ---- the groups

  module _ (names : Names) (n : ℕ) (long : digest_length ≤ n) where
    group_back : (group : ℕ) (members : Members) (share other random fitted back : List ℕ) → length share ≡ n → length other ≡ n
        → CorrespondInGroup names group members share other random fitted → CorrespondInGroup names group members other share fitted back → random ≡ back
    group_back group members share other random fitted back share_long other_long there home =
        elim (cases_Bool (is_held names (group, members))) [
          | inl held ↦ sym (there.held held) ∙ sym (home.held held)
          | inr free ↦
              level_back members.threshold members.count n share other _ random fitted back there.values there.others home.values home.others
              share_long other_long long there.split there.refitted home.split home.refitted (there.stay free) (home.stay free)
        ]

    groups_back : (group : ℕ) (groups : List Members) (shares others pieces fitted again last : List (List ℕ))
        → All (λ share. length share ≡ n) shares → All (λ share. length share ≡ n) others
        → CorrespondInEach names group groups shares others pieces fitted → CorrespondInEach names group groups others shares again last
        → concat fitted ≡ concat again → concat pieces ≡ concat last
    groups_back group [] [] [] [] [] [] [] share_long other_long there home whole = refl
    groups_back group [] [] [] [] [] [] (l ∷ ls) share_long other_long there home whole = absurd home
    groups_back group [] [] [] [] [] (q ∷ qs) last share_long other_long there home whole = absurd home
    groups_back group (m ∷ gs) (s ∷ ss) (o ∷ os) (p ∷ ps) (f ∷ fs) (q ∷ qs) (l ∷ ls) share_long other_long there home whole =
        let cut : length f ≡ length q =
        takes m.threshold m.count o f there.0.others there.0.refitted ∙ sym (takes m.threshold m.count o q home.0.values home.0.split) in
        let parts = same_front f q (concat fs) (concat qs) whole cut in
        let first : p ≡ l = group_back group m s o p f l (All-head (λ share. length share ≡ n) s ss share_long)
        (All-head (λ share. length share ≡ n) o os other_long) there.0 (subst (λ xs. CorrespondInGroup names group m o s xs l) (sym parts.front_is) home.0) in
        let rest = groups_back (group + 1) gs ss os ps fs qs ls (All-tail (λ share. length share ≡ n) s ss share_long)
        (All-tail (λ share. length share ≡ n) o os other_long) there.1 home.1 parts.back_is in
        ap₂ (λ xs ys. xs ++ ys) first rest
    groups_back group (m ∷ gs) (s ∷ ss) (o ∷ os) (p ∷ ps) (f ∷ fs) again last share_long other_long there home whole = absurd home
    groups_back group groups shares others pieces fitted again last share_long other_long there home whole = absurd there

  -- ---- a backup

  module _ (encrypts_once : SecretsHaveOneEncryption) (keeps : EncryptionKeepsLengthAndBytes) (names : Names) (asked : Asked)
      (other random fitted back : List ℕ) where
    abbrev secret : List ℕ
    secret = asked.secret

    abbrev passphrase : List ℕ
    passphrase = asked.passphrase

    abbrev group_threshold : ℕ
    group_threshold = asked.group_threshold

    abbrev groups : List Members
    groups = asked.groups

    pub bytes_back : IsSecretLength (length secret) → length other ≡ length secret → Correspond names asked other random fitted
        → Correspond names (record asked { secret = other }) secret fitted back → back ≡ random
    bytes_back is_length one_length there home =
        let n = length secret in
        let count = length groups in
        let held = held_groups names groups in
        let shortest = is_length.1 in
        let long : digest_length ≤ n = omega (arith, shortest) in
        let consumed : there.high ∷ there.low ∷ (there.fitted_piece ++ concat there.fitted_pieces)
        ≡ home.high ∷ home.low ∷ (home.group_piece ++ concat home.pieces) =
        sym there.fitted_consumed ∙ home.consumed in
        let high : there.high ≡ home.high = cc in
        let low : there.low ≡ home.low = cc in
        let levels : there.fitted_piece ++ concat there.fitted_pieces ≡ home.group_piece ++ concat home.pieces = cc in
        let params : there.params ≡ home.params = same_params there.params home.params
        (there.params_are.id ∙ ap₂ identifier_of high low ∙ sym home.params_are.id)
        (there.params_are.extendable ∙ sym home.params_are.extendable) (there.params_are.exponent ∙ sym home.params_are.exponent) in
        let even : length other % 2 ≡ 0 = ap (λ k. k % 2) one_length ∙ is_length.0 in
        let encrypted : there.encrypted ≡ home.other_encrypted =
        encrypted_once encrypts_once secret passphrase there.params home.params there.encrypted home.other_encrypted is_length.0 params
        there.encryption home.other_encryption in
        let other_encrypted : there.other_encrypted ≡ home.encrypted =
        encrypted_once encrypts_once other passphrase there.params home.params there.other_encrypted home.encrypted even params
        there.other_encryption home.encryption in
        let encrypted_long : length there.encrypted ≡ n = (keeps passphrase there.params secret there.encrypted there.encryption).0 in
        let other_long : length there.other_encrypted ≡ n =
        (keeps passphrase there.params other there.other_encrypted there.other_encryption).0 ∙ one_length in
        let level = subst
        (λ e. CorrespondAtLevel group_threshold count e there.encrypted held home.group_piece home.fitted_piece home.group_shares home.other_shares)
        (sym other_encrypted)
        (subst (λ e. CorrespondAtLevel group_threshold count home.encrypted e held home.group_piece home.fitted_piece home.group_shares home.other_shares)
        (sym encrypted) home.levels) in
        let cut : length there.fitted_piece ≡ length home.group_piece =
        takes group_threshold count there.other_encrypted there.fitted_piece there.other_shares there.levels.refitted
        ∙ sym (takes group_threshold count there.other_encrypted home.group_piece home.group_shares level.split) in
        let parts = same_front there.fitted_piece home.group_piece (concat there.fitted_pieces) (concat home.pieces) levels cut in
        let returned = subst (λ xs. CorrespondAtLevel group_threshold count there.other_encrypted there.encrypted held xs home.fitted_piece home.group_shares
        home.other_shares) (sym parts.front_is) level in
        let piece : there.group_piece ≡ home.fitted_piece =
        level_back group_threshold count n there.encrypted there.other_encrypted held there.group_piece there.fitted_piece home.fitted_piece
        there.group_shares there.other_shares home.group_shares home.other_shares encrypted_long other_long long
        there.levels.split there.levels.refitted returned.split returned.refitted there.levels.stay returned.stay in
        let others : home.group_shares ≡ there.other_shares =
        split_once group_threshold count there.other_encrypted there.fitted_piece home.group_shares there.other_shares returned.split there.levels.refitted in
        let shares : home.other_shares ≡ there.group_shares =
        split_once group_threshold count there.encrypted there.group_piece home.other_shares there.group_shares
        (subst (λ xs. IsSplit group_threshold count there.encrypted xs home.other_shares) (sym piece) returned.refitted) there.levels.split in
        let home_each = subst (λ xs. CorrespondInEach names 0 groups xs there.group_shares home.pieces home.fitted_pieces) others
        (subst (λ xs. CorrespondInEach names 0 groups home.group_shares xs home.pieces home.fitted_pieces) shares home.each) in
        let rest : concat there.pieces ≡ concat home.fitted_pieces =
        groups_back names n long 0 groups there.group_shares there.other_shares there.pieces there.fitted_pieces home.pieces home.fitted_pieces
        (λ k d within. as_long group_threshold count there.encrypted there.group_piece there.group_shares there.levels.split k d within ∙ encrypted_long)
        (λ k d within. as_long group_threshold count there.other_encrypted there.fitted_piece there.other_shares there.levels.refitted k d within ∙ other_long)
        there.each home_each parts.back_is in
        home.fitted_consumed
        ∙ ap₂ (λ (h : ℕ) (l : ℕ). h ∷ l ∷ (home.fitted_piece ++ concat home.fitted_pieces)) (sym high) (sym low)
        ∙ ap₂ (λ xs ys. there.high ∷ there.low ∷ (xs ++ ys)) (sym piece) (sym rest)
        ∙ sym there.consumed
