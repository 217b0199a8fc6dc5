-- A backup exists for all that a creation accepts, and is one.
use Rattle.std.proofs.Common.{◌≡◌, ℕ, ◌+◌, ◌%◌, ◌^◌, ◌<◌, ◌≤◌, List, [], ◌∷◌, ◌++◌, length, take, drop, sum_by, All, refl, sym, ap, ap₂, subst, ◌∙◌, arith}
use Rattle.std.proofs.Common.{length-append, length-drop}
use Rattle.std.specs.List.{concat}
use Rattle.std.proofs.Math.Seq.{take-append_seam, drop-append_seam}
use Rattle.std.proofs.lemmas.List.{length-take-le, take-append-drop, nil_from_length}
use Rattle.std.proofs.lemmas.List.Elements.{All-drop, All-head, All-tail, All-take}
use Rattle.std.proofs.lemmas.List.Sums.{sum_by-cons}
use Rattle.s39_kdf.specs.declared.params.Params.{Params}
use Rattle.s39_kdf.specs.Bytes.{AreBytes}
use Rattle.s39_kdf.specs.Limits.{id_bits, IsSecretLength}
use Rattle.s39_kdf.specs.Cipher.{IsEncryption, SecretsHaveOneEncryption, EncryptionKeepsLengthAndBytes}
use Rattle.s39_split.specs.Sharing.{digest_length, random_needed as level_random_needed, IsSplit, SplitsTakeTheBytesNeeded, SharesAreAsLong, SharesAreBytes}
use Rattle.s39_split.specs.Sharing.{HaveASplit, HaveOneSplit}
use Rattle.s39_words.specs.declared.share.ShareFields.{ShareFields}
use Rattle.s39_backup.specs.declared.plan.Members.{Members}
use Rattle.s39_backup.specs.Plan.{IsPlan, IsGroup}
use Rattle.s39_backup.specs.Created.{Asked, identifier_of, needed_by, AreSplitAmong, created_groups, IsCreatedFrom}
use Rattle.s39_backup.proofs.OneRecovery.{of_fields, same_params}

-- ---- lists

-- beginnings of one length, and what follows them
pub record AreSameParts {X : Type 0} (front other back rest : List X) : Type 0 where
  pub front_is : front ≡ other
  pub back_is : back ≡ rest

pub same_front : {X : Type 0} (front other back rest : List X) → front ++ back ≡ other ++ rest → length front ≡ length other
    → AreSameParts front other back rest
same_front front other back rest whole as_long = record {
  front_is = sym (take-append_seam front back) ∙ ap₂ take as_long whole ∙ take-append_seam other rest;
  back_is = sym (drop-append_seam front back) ∙ ap₂ drop as_long whole ∙ drop-append_seam other rest;
}

-- ---- a backup is one

module _ (takes : SplitsTakeTheBytesNeeded) (as_long : SharesAreAsLong) (split_once : HaveOneSplit) where
  -- the groups' pieces are cut in one way, and split in one way
  members_once : (groups : List Members) (shares pieces others : List (List ℕ)) (values more : List (List (List ℕ)))
      → AreSplitAmong groups shares pieces values → AreSplitAmong groups shares others more → concat pieces ≡ concat others → values ≡ more
  members_once [] [] [] [] [] [] is also whole = refl
  members_once [] [] [] others [] more is also whole = absurd also
  members_once (g ∷ gs) (s ∷ ss) (p ∷ ps) (q ∷ qs) (v ∷ vs) (w ∷ ws) is also whole =
      let long : length p ≡ length q = takes g.threshold g.count s p v is.0 ∙ sym (takes g.threshold g.count s q w also.0) in
      let parts = same_front p q (concat ps) (concat qs) whole long in
      let first : v ≡ w = split_once g.threshold g.count s p v w is.0 (subst (λ xs. IsSplit g.threshold g.count s xs w) (sym parts.front_is) also.0) in
      let rest = members_once gs ss ps qs vs ws is.1 also.1 parts.back_is in
      ap₂ (λ x xs. x ∷ xs) first rest
  members_once (g ∷ gs) (s ∷ ss) (p ∷ ps) others (v ∷ vs) more is also whole = absurd also
  members_once groups shares pieces others values more is also whole = absurd is

  module _ (encrypts_once : SecretsHaveOneEncryption) (asked : Asked) (random : List ℕ) where
    abbrev groups : List Members
    groups = asked.groups

    abbrev group_threshold : ℕ
    group_threshold = asked.group_threshold

    pub backup_once : (shares other : List ShareFields) → IsCreatedFrom asked random shares → IsCreatedFrom asked random other → shares ≡ other
    backup_once shares other is also =
        let consumed : is.high ∷ is.low ∷ (is.group_piece ++ concat is.pieces) ≡ also.high ∷ also.low ∷ (also.group_piece ++ concat also.pieces) =
        sym is.consumed ∙ also.consumed in
        let high : is.high ≡ also.high = cc in
        let low : is.low ≡ also.low = cc in
        let levels : is.group_piece ++ concat is.pieces ≡ also.group_piece ++ concat also.pieces = cc in
        let params : is.params ≡ also.params = same_params is.params also.params
        (is.params_are.id ∙ ap₂ identifier_of high low ∙ sym also.params_are.id)
        (is.params_are.extendable ∙ sym also.params_are.extendable) (is.params_are.exponent ∙ sym also.params_are.exponent) in
        let encryption = is.encryption in
        let even : length asked.secret % 2 ≡ 0 = even_from (length asked.secret) (length encryption.h0) (length encryption.h1)
        (ap length encryption.halves ∙ length-append encryption.h0 encryption.h1) encryption.same_length in
        let (result, of_result, only) = encrypts_once asked.passphrase is.params asked.secret even in
        let encrypted : also.encrypted ≡ is.encrypted =
        only also.encrypted (subst (λ (p : Params). IsEncryption asked.secret asked.passphrase p also.encrypted) (sym params) also.encryption)
        ∙ sym (only is.encrypted is.encryption) in
        let split : IsSplit group_threshold (length groups) is.encrypted also.group_piece also.group_shares =
        subst (λ e. IsSplit group_threshold (length groups) e also.group_piece also.group_shares) encrypted also.groups_split in
        let long : length is.group_piece ≡ length also.group_piece =
        takes group_threshold (length groups) is.encrypted is.group_piece is.group_shares is.groups_split
        ∙ sym (takes group_threshold (length groups) is.encrypted also.group_piece also.group_shares split) in
        let parts = same_front is.group_piece also.group_piece (concat is.pieces) (concat also.pieces) levels long in
        let group_shares : is.group_shares ≡ also.group_shares =
        split_once group_threshold (length groups) is.encrypted is.group_piece is.group_shares also.group_shares is.groups_split
        (subst (λ piece. IsSplit group_threshold (length groups) is.encrypted piece also.group_shares) (sym parts.front_is) split) in
        let values : is.values ≡ also.values = members_once groups is.group_shares is.pieces also.pieces is.values also.values is.members_split
        (subst (λ xs. AreSplitAmong groups xs also.pieces also.values) (sym group_shares) also.members_split) parts.back_is in
        is.shares_are
        ∙ ap₂ (λ (p : Params) vs. created_groups p group_threshold (length groups) 0 groups vs) params values
        ∙ sym also.shares_are
      where
        even_from : (n a b : ℕ) → n ≡ a + b → a ≡ b → n % 2 ≡ 0
        even_from n a b whole same = omega arith

-- ---- a backup exists

-- the splits of group shares by random bytes
record HaveSplits (groups : List Members) (shares : List (List ℕ)) (random : List ℕ) : Type 0 where
  pub pieces : List (List ℕ)
  pub values : List (List (List ℕ))
  pub consumed : random ≡ concat pieces
  pub split : AreSplitAmong groups shares pieces values

module _ (have_split : HaveASplit) where
  module _ (n : ℕ) (long : digest_length ≤ n) where
    members_split : (groups : List Members) (shares : List (List ℕ)) (random : List ℕ) → All IsGroup groups → length shares ≡ length groups
        → All (λ share. length share ≡ n) shares → All AreBytes shares → AreBytes random
        → length random ≡ sum_by (λ members. level_random_needed members.threshold n) groups → HaveSplits groups shares random
    members_split [] [] random each as_many lengths bytes random_bytes needed =
        record { pieces = []; values = []; consumed = nil_from_length random needed; split = tt }
    members_split [] (s ∷ ss) random each as_many lengths bytes random_bytes needed = absurd (omega arith)
    members_split (g ∷ gs) [] random each as_many lengths bytes random_bytes needed = absurd (omega arith)
    members_split (g ∷ gs) (s ∷ ss) random each as_many lengths bytes random_bytes needed =
        let group = All-head IsGroup g gs each in
        let here : length s ≡ n = All-head (λ share. length share ≡ n) s ss lengths in
        let k = level_random_needed g.threshold n in
        let count : length random ≡ k + sum_by (λ members. level_random_needed members.threshold n) gs =
        needed ∙ sum_by-cons (λ members. level_random_needed members.threshold n) g gs in
        let piece : length (take k random) ≡ k = length-take-le k random (omega arith) in
        let left : length (drop k random) ≡ sum_by (λ members. level_random_needed members.threshold n) gs = length-drop k random ∙ omega arith in
        let (values, split) = have_split g.threshold g.count s (take k random) group.positive group.enough.enough group.enough.few (omega arith)
        (All-head AreBytes s ss bytes) (All-take (λ b. b < 256) k random random_bytes) (piece ∙ ap (level_random_needed g.threshold) (sym here)) in
        let rest = members_split gs ss (drop k random) (All-tail IsGroup g gs each) (omega arith) (All-tail (λ share. length share ≡ n) s ss lengths)
        (All-tail AreBytes s ss bytes) (All-drop (λ b. b < 256) k random random_bytes) left in
        record {
          pieces = take k random ∷ rest.pieces;
          values = values ∷ rest.values;
          consumed = sym (take-append-drop k random) ∙ ap (λ xs. take k random ++ xs) rest.consumed;
          split = (split, rest.split);
        }

  module _ (as_long : SharesAreAsLong) (are_bytes : SharesAreBytes) (encrypts_once : SecretsHaveOneEncryption) (keeps : EncryptionKeepsLengthAndBytes)
      (asked : Asked) where
    abbrev asked_groups : List Members
    asked_groups = asked.groups

    abbrev threshold : ℕ
    threshold = asked.group_threshold

    pub backup_exists : (random : List ℕ) → IsPlan asked.group_threshold asked.groups → IsSecretLength (length asked.secret)
        → AreBytes asked.secret → AreBytes random → length random ≡ needed_by asked
        → (shares : List ShareFields) × IsCreatedFrom asked random shares
    backup_exists [] plan is_length bytes random_bytes needed = absurd (omega arith)
    backup_exists (high ∷ []) plan is_length bytes random_bytes needed = absurd (omega arith)
    backup_exists (high ∷ low ∷ levels) plan is_length bytes random_bytes needed =
        let n = length asked.secret in
        let k = level_random_needed threshold n in
        let others = sum_by (λ members. level_random_needed members.threshold n) asked_groups in
        let small : identifier_of high low < 2 ^ id_bits = omega arith in
        let params : Params = of_fields (identifier_of high low) asked.options.extendable asked.options.exponent small asked.options.exponent_in_range in
        let (encrypted, encryption, only) = encrypts_once asked.passphrase params asked.secret is_length.0 in
        let kept = keeps asked.passphrase params asked.secret encrypted encryption in
        let encrypted_bytes : AreBytes encrypted = kept.1 bytes in
        let encrypted_long : length encrypted ≡ n = kept.0 in
        let at_least = is_length.1 in
        let levels_bytes : AreBytes levels = All-tail (λ b. b < 256) low levels (All-tail (λ b. b < 256) high (low ∷ levels) random_bytes) in
        let count : length levels ≡ k + others = omega arith in
        let piece : length (take k levels) ≡ k = length-take-le k levels (omega arith) in
        let piece_bytes : AreBytes (take k levels) = All-take (λ b. b < 256) k levels levels_bytes in
        let left : length (drop k levels) ≡ others = length-drop k levels ∙ omega arith in
        let (group_shares, split) =
        have_split threshold (length asked_groups) encrypted (take k levels) plan.positive plan.enough.enough plan.enough.few (omega arith)
        encrypted_bytes piece_bytes (piece ∙ ap (level_random_needed threshold) (sym encrypted_long)) in
        let lengths : All (λ share. length share ≡ n) group_shares =
        λ i d within. as_long threshold (length asked_groups) encrypted (take k levels) group_shares split i d within ∙ encrypted_long in
        let share_bytes : All AreBytes group_shares =
        are_bytes threshold (length asked_groups) encrypted (take k levels) group_shares split encrypted_bytes piece_bytes in
        let members = members_split n (omega arith) asked_groups group_shares (drop k levels) plan.each split.number lengths share_bytes
        (All-drop (λ b. b < 256) k levels levels_bytes) left in (
          created_groups params threshold (length asked_groups) 0 asked_groups members.values,
          record {
            high = high;
            low = low;
            group_piece = take k levels;
            pieces = members.pieces;
            params = params;
            encrypted = encrypted;
            group_shares = group_shares;
            values = members.values;
            consumed = ap (λ xs. high ∷ low ∷ xs) (sym (take-append-drop k levels) ∙ ap (λ xs. take k levels ++ xs) members.consumed);
            params_are = record { id = refl; extendable = refl; exponent = refl };
            encryption = encryption;
            groups_split = split;
            members_split = members.split;
            shares_are = refl;
          },
        )
