-- A quorum has one outcome, where a text encrypts one secret.
use Rattle.std.proofs.Common.{◌≡◌, ℕ, ◌<◌, ◌%◌, ◌^◌, Bool, List, [], ◌∷◌, length, Contains, Option, Some, None, Result, Ok, Err, nat_lt, refl}
use Rattle.std.proofs.Common.{sym, ap, ap₂, subst, ◌∙◌, arith}
use Rattle.std.proofs.Math.Bridge.{le_prop}
use Rattle.std.specs.Prelude.{IfOk, IfErr, IsOkAnd, MatchResult}
use Rattle.std.specs.List.{range_with_len}
use Rattle.std.specs.Option.{ok_or}
use Rattle.arrayvec.specs.ArrayVec.{ArrayVec}
use Rattle.std.proofs.lemmas.List.Elements.{All-head, All-contains}
use Rattle.s39_kdf.specs.declared.params.Params.{Params}
use Rattle.s39_kdf.specs.Limits.{id_bits, exponent_bits, IsSecretLength}
use Rattle.s39_kdf.specs.Cipher.{IsEncryption, EncryptsOneSecret, TextsHaveOneSecret, EncryptionKeepsLengthAndBytes}
use Rattle.s39_lists.specs.Each.{and_then, each}
use Rattle.s39_lists.proofs.Each.{each-refuses}
use Rattle.s39_lists.proofs.Ranges.{range-below}
use Rattle.s39_lists.proofs.Sublists.{of_filter}
use Rattle.s39_split.specs.Recovery.{combined}
use Rattle.s39_words.specs.declared.share.ShareFields.{ShareFields}
use Rattle.s39_words.specs.Share.{IsShare}
use Rattle.s39_set.specs.Names.{Names, most_groups, names_in_group}
use Rattle.s39_set.specs.ShareSet.{IsShareSet}
use Rattle.s39_backup.specs.declared.combination.Mismatch.{Mismatch}
use Rattle.s39_backup.specs.declared.combination.Mismatch.TheVariants.{InGroup, OfGroups}
use Rattle.s39_backup.specs.Combination.{member_shares, groups_of, group_share, combination_of}
use Rattle.s39_backup.specs.Outcome.{AreParams, Recovers, IsOutcome}
use Rattle.s39_backup.specs.GroupShares.{value_bytes_of, IsExactQuorum}
use Rattle.s39_backup.proofs.Combining.{mismatch_is}
use Rattle.s39_backup.proofs.Values.{values_agree}
use Rattle.s39_backup.proofs.Levels.{some_share, group_threshold_is, value_bytes-even, encrypted_like}

-- ---- parameters

-- parameters of these fields
abbrev pub of_fields : (id : ℕ) (extendable : Bool) (exponent : ℕ) → id < 2 ^ id_bits → exponent < 2 ^ exponent_bits → Params
of_fields id extendable exponent r t = record { id = id; extendable = extendable; exponent = exponent; id_in_range = r; exponent_in_range = t }

-- parameters are known by their fields
pub same_params : (p q : Params) → p.id ≡ q.id → p.extendable ≡ q.extendable → p.exponent ≡ q.exponent → p ≡ q
same_params p q id extendable exponent =
    subst
    (λ (i : ℕ). (j : i < 2 ^ id_bits) → p ≡ of_fields i q.extendable q.exponent j q.exponent_in_range)
    id
    (λ j. subst
    (λ (f : Bool). p ≡ of_fields p.id f q.exponent j q.exponent_in_range)
    extendable
    (subst
    (λ (e : ℕ). (k : e < 2 ^ exponent_bits) → p ≡ of_fields p.id p.extendable e j k)
    exponent
    (λ k.
    ap₂ (λ (r : p.id < 2 ^ id_bits) (t : p.exponent < 2 ^ exponent_bits). of_fields p.id p.extendable p.exponent r t)
    (le_prop p.id_in_range j) (le_prop p.exponent_in_range k))
    q.exponent_in_range))
    q.id_in_range

-- a set has one list of parameters
pub one_params : (set : List ShareFields) (p q : Params) → AreParams set p → AreParams set q → p ≡ q
one_params [] p q a b = absurd a
one_params (s ∷ ss) p q a b = same_params p q (a.0 ∙ sym b.0) (a.1 ∙ sym b.1) (a.2 ∙ sym b.2)

-- ---- outcomes

-- a quorum has one outcome, where a text encrypts one secret
module _ (set : List ShareFields) (names : Names) (encrypts_once : EncryptsOneSecret) (passphrase : List ℕ) where
  secret_once : (secret other : List ℕ) → Recovers set names passphrase secret → Recovers set names passphrase other → secret ≡ other
  secret_once secret other r s =
      let both : Ok s.encrypted ≡ Ok r.encrypted = sym s.combined ∙ r.combined in
      let encrypted : s.encrypted ≡ r.encrypted = cc in
      let params : s.params ≡ r.params = one_params set s.params r.params s.params_are r.params_are in
      encrypts_once passphrase r.params secret other r.encrypted r.secret_is
      (subst (λ p. IsEncryption other passphrase p r.encrypted) params (subst (IsEncryption other passphrase s.params) encrypted s.secret_is))

  pub outcome_once : (outcome other : Result (List ℕ) Mismatch) → IsOutcome set names passphrase outcome → IsOutcome set names passphrase other
      → outcome ≡ other
  outcome_once (Ok secret) (Ok other) r s = ap (λ x. Ok x) (secret_once secret other r s)
  outcome_once (Ok secret) (Err mismatch) r s = let both : Ok r.encrypted ≡ Err mismatch = sym r.combined ∙ s in absurd (cc)
  outcome_once (Err mismatch) (Ok secret) r s = let both : Ok s.encrypted ≡ Err mismatch = sym s.combined ∙ r in absurd (cc)
  outcome_once (Err mismatch) (Err other) r s =
      let both : Err mismatch ≡ Err other = sym r ∙ s in
      let same : mismatch ≡ other = cc in
      ap (λ (m : Mismatch). Err m) same

-- the shares of a set have parameters
pub params_of_share : (set : List ShareFields) (share : ShareFields) → IsShareSet set → Contains set share → (params : Params) × AreParams set params
params_of_share [] share is (k, below, here) = absurd (omega arith)
params_of_share (s ∷ ss) share is among =
    let valid = All-head IsShare s ss is.each in
    (of_fields s.id s.extendable s.exponent valid.id valid.exponent, (refl, refl, refl))

-- and every quorum has an outcome
module _ (set : List ShareFields) (names : Names) (quorum : IsExactQuorum set names) where
  pub outcome_exists : TextsHaveOneSecret → (passphrase : List ℕ) → (outcome : Result (List ℕ) Mismatch) × IsOutcome set names passphrase outcome
  outcome_exists texts passphrase = by (combination_of set names) refl
    where
      by : (combination : Result (List ℕ) Mismatch) → combination_of set names ≡ combination
          → (outcome : Result (List ℕ) Mismatch) × IsOutcome set names passphrase outcome
      by (Err mismatch) is = (Err mismatch, is)
      by (Ok encrypted) is =
          let (share, among) = some_share set (length (groups_of names)) (group_threshold_is set names quorum) in
          let (params, are) = params_of_share set share quorum.is_set among in
          let long = (encrypted_like set names quorum encrypted is).0 in
          let (secret, encryption, only) = texts passphrase params encrypted (ap (λ n. n % 2) long ∙ value_bytes-even set names quorum) in
          (Ok secret, record { encrypted = encrypted; params = params; combined = is; params_are = are; secret_is = encryption })

  -- a secret of the length that secrets have
  pub secret_length : EncryptionKeepsLengthAndBytes → (passphrase secret : List ℕ) → Recovers set names passphrase secret → IsSecretLength (length secret)
  secret_length keeps passphrase secret r =
      let (share, among) = some_share set (length (groups_of names)) (group_threshold_is set names quorum) in
      subst IsSecretLength
      (All-contains (λ s. length s.value.items ≡ value_bytes_of set) set share (values_agree set quorum.is_set) among
      ∙ sym (encrypted_like set names quorum r.encrypted r.combined).0 ∙ (keeps passphrase r.params secret r.encrypted r.secret_is).0)
      (All-contains IsShare set share quorum.is_set.each among).value.count

-- or the mismatch of a group that there may be
pub refused_group : (set : List ShareFields) (names : Names) (group : ℕ) → combination_of set names ≡ Err (InGroup group) → group < most_groups
unfolding combination_of
refused_group set names group is =
    by (each (group_share set names) (groups_of names)) refl is
  where
    of_groups : (o : Option (List ℕ)) → ok_or o OfGroups ≡ Err (InGroup group) → ⊥
    of_groups None clash = cc
    of_groups (Some encrypted) clash = cc

    by : (shares : Result (List (ℕ × List ℕ)) Mismatch) → each (group_share set names) (groups_of names) ≡ shares
        → and_then (λ shares. ok_or (combined shares) OfGroups) shares ≡ Err (InGroup group) → group < most_groups
    by (Ok shares) all clash = absurd (of_groups (combined shares) clash)
    by (Err mismatch) refused same =
        let is : mismatch ≡ InGroup group = cc in
        let (g, among, g_refused) = each-refuses (group_share set names) (groups_of names) mismatch refused in
        let of : InGroup group ≡ InGroup g = sym is ∙ (mismatch_is g (combined (member_shares set names g)) mismatch g_refused).0 in
        let here : group ≡ g = cc in
        let found = of_filter (λ g. nat_lt 0 (length (names_in_group g names))) (range_with_len 0 most_groups) g among in
        let low = All-contains (λ g. g < most_groups) (range_with_len 0 most_groups) g (range-below most_groups) found.0 in
        omega arith

-- what is recovered is the one outcome of the quorum
pub only_outcome : (set : List ShareFields) (names : Names) (passphrase : List ℕ)
    → ((outcome other : Result (List ℕ) Mismatch) → IsOutcome set names passphrase outcome → IsOutcome set names passphrase other → outcome ≡ other)
    → (secret : List ℕ) → IsOutcome set names passphrase (Ok secret)
    → (result : Result (ArrayVec ℕ) Mismatch) → IfOk result (λ s. IsOutcome set names passphrase (Ok s.items))
    → IfErr result (λ m. IsOutcome set names passphrase (Err m))
    → IsOkAnd result (λ s. s.items ≡ secret)
only_outcome set names passphrase once secret is (Ok s) recovered refused =
    let same : Ok s.items ≡ Ok secret = once (Ok s.items) (Ok secret) recovered is in
    cc
only_outcome set names passphrase once secret is (Err m) recovered refused =
    let both = once (Err m) (Ok secret) refused is in
    absurd (cc)

-- a success stays one where only the error is changed
pub stays_ok : {T E F : Type 0} (r : Result T E) (s : Result T F) (P : T → Type 0) (Q : E → Type 0) → IsOkAnd r P → MatchResult r (λ x. s ≡ Ok x) Q
    → IsOkAnd s P
stays_ok (Ok x) s P Q holds same = subst (λ t. IsOkAnd t P) (sym same) holds
stays_ok (Err e) s P Q holds same = absurd holds
