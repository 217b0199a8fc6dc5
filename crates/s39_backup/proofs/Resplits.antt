-- An encrypted secret that is split is the creation of a backup, with whatever passphrase, and there is just one.
use Rattle.std.proofs.Common.{◌≡◌, ℕ, ◌*◌, ◌^◌, ◌==◌, not, Bool, true, false, if◌then◌else◌, List, [], ◌∷◌, ◌++◌, length, All, Contains}
use Rattle.std.proofs.Common.{eqb-true, Result, Ok, Err, inl, inr, refl, sym, ap, ap₂, subst, ◌∙◌}
use Rattle.std.specs.List.{concat}
use Rattle.std.proofs.lemmas.Bool.{eqb-false}
use Rattle.std.proofs.lemmas.List.Elements.{All-head, All-contains}
use Rattle.s39_kdf.specs.declared.params.Params.{Params}
use Rattle.s39_kdf.specs.Bytes.{AreBytes, xor_of}
use Rattle.s39_kdf.specs.Pbkdf2.{pbkdf2}
use Rattle.s39_kdf.specs.Limits.{IsSecretLength}
use Rattle.s39_kdf.specs.Cipher.{salt_prefix, round_iterations, round_function, IsEncryption, SecretsHaveOneEncryption, EncryptionKeepsLengthAndBytes}
use Rattle.s39_split.specs.Sharing.{IsSplit}
use Rattle.s39_words.specs.declared.share.ShareFields.{ShareFields}
use Rattle.s39_set.specs.Names.{Names}
use Rattle.s39_set.specs.ShareSet.{IsShareSet, Agrees}
use Rattle.s39_set.specs.Quorums.{IsQuorum, IsLeastQuorum}
use Rattle.s39_set.specs.declared.set_lack.SetLack.{SetLack}
use Rattle.s39_set.specs.SetFacts.{SetsHaveOneLack, SetsWithQuorumsHaveNone}
use Rattle.s39_backup.specs.declared.plan.Members.{Members}
use Rattle.s39_backup.specs.declared.options.Options.{Options}
use Rattle.s39_backup.specs.declared.combination.Mismatch.{Mismatch}
use Rattle.s39_backup.specs.declared.resplit_error.ResplitError.{ResplitError}
use Rattle.s39_backup.specs.declared.resplit_error.ResplitError.TheVariants.{Lack, DigestMismatch, NotExtendable, BadRandomLength, SameIdentifier}
use Rattle.s39_backup.specs.Combination.{groups_of, combination_of}
use Rattle.s39_backup.specs.GroupShares.{IsExactQuorum}
use Rattle.s39_backup.specs.Outcome.{AreParams, Recovers, IsOutcome}
use Rattle.s39_backup.specs.Created.{Asked, asked_for, identifier_of, random_needed, IsCreatedFrom}
use Rattle.s39_backup.proofs.Levels.{some_share, group_threshold_is, encrypted_like}
use Rattle.s39_backup.proofs.Promise.{in_created_groups}
use Rattle.s39_backup.proofs.OneRecovery.{one_params, params_of_share}
use Rattle.s39_backup.specs.Resplit.{options_of, gives_identifier, judged_split, IsCreatedFromEncrypted, IsCreationFromEncrypted, AreSplitAnew, IsResplit}

-- ---- the cipher of an extendable backup

-- the round function doesn't depend on the identifier
same_rounds : (p q : Params) → p.extendable ≡ true → q.extendable ≡ true → p.exponent ≡ q.exponent → (passphrase : List ℕ) (i : ℕ) (right : List ℕ)
    → round_function passphrase p i right ≡ round_function passphrase q i right
unfolding round_function
same_rounds p q p_is q_is exponent passphrase i right =
    let salt : salt_prefix p ≡ salt_prefix q = rw (p_is, q_is) refl in
    let iterations : round_iterations p ≡ round_iterations q = ap (λ (e : ℕ). 2500 * 2 ^ e) exponent in
    ap₂ (λ (prefix : List ℕ) (n : ℕ). pbkdf2 (i ∷ passphrase) (prefix ++ right) n (length right)) salt iterations

-- and so an encryption stays one with another identifier
pub with_other_identifier : (p q : Params) → p.extendable ≡ true → q.extendable ≡ true → p.exponent ≡ q.exponent → (passphrase secret encrypted : List ℕ)
    → IsEncryption secret passphrase p encrypted → IsEncryption secret passphrase q encrypted
with_other_identifier p q p_is q_is exponent passphrase secret encrypted is =
    let same = same_rounds p q p_is q_is exponent passphrase in
    record {
      h0 = is.h0;
      h1 = is.h1;
      h2 = is.h2;
      h3 = is.h3;
      h4 = is.h4;
      h5 = is.h5;
      halves = is.halves;
      same_length = is.same_length;
      round_0 = is.round_0 ∙ ap (xor_of is.h0) (same 0 is.h1);
      round_1 = is.round_1 ∙ ap (xor_of is.h1) (same 1 is.h2);
      round_2 = is.round_2 ∙ ap (xor_of is.h2) (same 2 is.h3);
      round_3 = is.round_3 ∙ ap (xor_of is.h3) (same 3 is.h4);
      exchanged = is.exchanged;
    }

-- ---- what is judged

-- what isn't refused
record IsUnrefused (old : Params) (group_threshold : ℕ) (groups : List Members) (random encrypted : List ℕ) : Type 0 where
  pub extendable : old.extendable ≡ true
  pub count : length random ≡ random_needed group_threshold groups (length encrypted)
  pub other : gives_identifier random old.id ≡ false

-- what is judged, by its tests
abbrev by_tests : (extendable same_count same_id : Bool) (needed : ℕ) (encrypted : List ℕ) → Result (List ℕ) ResplitError
by_tests extendable same_count same_id needed encrypted =
    if not extendable then Err NotExtendable else if not same_count then Err (BadRandomLength needed)
    else if same_id then Err SameIdentifier else Ok encrypted

-- nothing is split but what the shares combine to
judged_ok : (old : Params) (group_threshold : ℕ) (groups : List Members) (random : List ℕ) (combination : Result (List ℕ) Mismatch) (encrypted : List ℕ)
    → judged_split old group_threshold groups random combination ≡ Ok encrypted
    → (combination ≡ Ok encrypted) × IsUnrefused old group_threshold groups random encrypted
judged_ok old group_threshold groups random (Err mismatch) encrypted is = absurd (let clash : Err (DigestMismatch mismatch) ≡ Ok encrypted = is in cc)
judged_ok old group_threshold groups random (Ok combined) encrypted is =
    let all = by old.extendable (length random == needed) (gives_identifier random old.id) refl refl refl is in
    (ap (λ (e : List ℕ). Ok e) all.0, all.1)
  where
    needed : ℕ
    needed = random_needed group_threshold groups (length combined)

    by : (extendable same_count same_id : Bool) → old.extendable ≡ extendable → length random == needed ≡ same_count
        → gives_identifier random old.id ≡ same_id
        → by_tests extendable same_count same_id needed combined ≡ Ok encrypted
        → (combined ≡ encrypted) × IsUnrefused old group_threshold groups random encrypted
    by false same_count same_id extendable count id clash = absurd (let e : Err NotExtendable ≡ Ok encrypted = clash in cc)
    by true false same_id extendable count id clash = absurd (let e : Err (BadRandomLength needed) ≡ Ok encrypted = clash in cc)
    by true true true extendable count id clash = absurd (let e : Err SameIdentifier ≡ Ok encrypted = clash in cc)
    by true true false extendable count id all =
        let same : combined ≡ encrypted = cc in (
          same,
          record {
            extendable = extendable;
            count = eqb-true (length random) needed count ∙ ap (λ (e : List ℕ). random_needed group_threshold groups (length e)) same;
            other = id;
          },
        )

-- ---- options

-- all shares of a set have the flag and the exponent of its parameters
pub have_options : (set : List ShareFields) (params : Params) → IsShareSet set → AreParams set params
    → All (λ share. (share.extendable ≡ params.extendable) × (share.exponent ≡ params.exponent)) set
have_options [] params is are = absurd are
have_options (s ∷ ss) params is are = λ k d within.
    let agree = All-head (λ share. All (Agrees share) (s ∷ ss)) s ss is.agree k d within in
    (sym agree.extendable ∙ sym are.1, sym agree.exponent ∙ sym are.2)

-- ---- an encrypted secret that is split is a creation

module _ (old : Params) (group_threshold : ℕ) (groups : List Members) (random encrypted : List ℕ) (shares : List ShareFields)
    (made : IsCreatedFromEncrypted old group_threshold groups random encrypted shares) (passphrase secret : List ℕ)
    (is : IsEncryption secret passphrase old encrypted) where
  unrefused : IsUnrefused old group_threshold groups random encrypted
  unrefused = (judged_ok old group_threshold groups random (Ok encrypted) encrypted made.judged).1

  -- the new backup has the encryption of the secret
  encrypts : IsEncryption secret passphrase made.params encrypted
  encrypts =
      with_other_identifier old made.params unrefused.extendable (made.new.extendable ∙ unrefused.extendable) (sym made.new.exponent)
      passphrase secret encrypted is

  pub made_is_created : IsCreatedFrom (asked_for secret passphrase group_threshold groups (options_of old)) random shares
  made_is_created =
      let levels = made.split in
      record {
        high = made.new.high;
        low = made.new.low;
        group_piece = levels.group_piece;
        pieces = levels.pieces;
        params = made.params;
        encrypted = encrypted;
        group_shares = levels.group_shares;
        values = levels.values;
        consumed = made.new.consumed ∙ ap (λ (xs : List ℕ). made.new.high ∷ made.new.low ∷ xs) levels.consumed;
        params_are = record { id = made.new.id; extendable = made.new.extendable; exponent = made.new.exponent };
        encryption = encrypts;
        groups_split = levels.groups_split;
        members_split = levels.members_split;
        shares_are = levels.shares_are;
      }

  -- by random bytes of the right number
  pub made_count : EncryptionKeepsLengthAndBytes → length random ≡ random_needed group_threshold groups (length secret)
  made_count keeps = unrefused.count ∙ ap (random_needed group_threshold groups) (keeps passphrase old secret encrypted is).0

-- ---- and so is a split anew

module _ (set : List ShareFields) (group_threshold : ℕ) (groups : List Members) (random : List ℕ) (shares : List ShareFields)
    (split : AreSplitAnew set group_threshold groups random shares) (passphrase secret : List ℕ)
    (recovers : Recovers set split.names passphrase secret) where
  -- what is split is the encryption of the secret
  split_encrypts : IsEncryption secret passphrase split.old split.encrypted
  split_encrypts =
      let both : Ok recovers.encrypted ≡ Ok split.encrypted = sym recovers.combined ∙ split.combined in
      let encrypted : recovers.encrypted ≡ split.encrypted = cc in
      subst (λ (p : Params). IsEncryption secret passphrase p split.encrypted)
      (one_params set recovers.params split.old recovers.params_are split.old_are)
      (subst (IsEncryption secret passphrase recovers.params) encrypted recovers.secret_is)

  pub is_created : IsCreatedFrom (asked_for secret passphrase group_threshold groups (options_of split.old)) random shares
  is_created = made_is_created split.old group_threshold groups random split.encrypted shares split.created passphrase secret split_encrypts

  -- the secret consists of bytes
  pub secret_bytes : EncryptionKeepsLengthAndBytes → IsExactQuorum set split.names → AreBytes secret
  secret_bytes keeps exact =
      (keeps passphrase recovers.params secret recovers.encrypted recovers.secret_is).2
      (encrypted_like set split.names exact recovers.encrypted recovers.combined).1

  pub count_is : EncryptionKeepsLengthAndBytes → length random ≡ random_needed group_threshold groups (length secret)
  count_is = made_count split.old group_threshold groups random split.encrypted shares split.created passphrase secret split_encrypts

-- the least quorum is the one that recovers
pub least_recovers : (set : List ShareFields) (group_threshold : ℕ) (groups : List Members) (random : List ℕ) (shares : List ShareFields)
    (names : Names) (passphrase secret : List ℕ)
    → ((names others : Names) → IsLeastQuorum set names → IsLeastQuorum set others → names ≡ others)
    → (split : AreSplitAnew set group_threshold groups random shares) → IsLeastQuorum set names → Recovers set names passphrase secret
    → Recovers set split.names passphrase secret
least_recovers set group_threshold groups random shares names passphrase secret once split least recovers =
    subst (λ (ns : Names). Recovers set ns passphrase secret) (once names split.names least split.least) recovers

-- a quorum that combines recovers a secret
secret_of : (set : List ShareFields) (names : Names) (passphrase encrypted : List ℕ) → combination_of set names ≡ Ok encrypted
    → (outcome : Result (List ℕ) Mismatch) × IsOutcome set names passphrase outcome
    → (secret : List ℕ) × Recovers set names passphrase secret
secret_of set names passphrase encrypted combined (Ok secret, is) = (secret, is)
secret_of set names passphrase encrypted combined (Err mismatch, is) =
    absurd (let both : Ok encrypted ≡ Err mismatch = sym combined ∙ is in cc)

-- the least quorum of a set that is split anew does so
pub least_secret : (set : List ShareFields) (group_threshold : ℕ) (groups : List Members) (random : List ℕ) (shares : List ShareFields)
    (names : Names) (passphrase : List ℕ)
    → ((names others : Names) → IsLeastQuorum set names → IsLeastQuorum set others → names ≡ others)
    → (outcome : Result (List ℕ) Mismatch) × IsOutcome set names passphrase outcome
    → AreSplitAnew set group_threshold groups random shares → IsLeastQuorum set names
    → (secret : List ℕ) × Recovers set names passphrase secret
least_secret set group_threshold groups random shares names passphrase once outcome split least =
    secret_of set names passphrase split.encrypted
    (ap (combination_of set) (once names split.names least split.least) ∙ split.combined) outcome

-- ---- the identifier of the new backup

-- all shares of a set have the identifier of its parameters
same_id : (set : List ShareFields) (params : Params) (share : ShareFields) → IsShareSet set → AreParams set params → Contains set share
    → share.id ≡ params.id
same_id [] params share is are among = absurd are
same_id (s ∷ ss) params share is are among =
    sym (All-contains (Agrees s) (s ∷ ss) share (All-head (λ t. All (Agrees t) (s ∷ ss)) s ss is.agree) among).id ∙ sym are.0

-- no share of the new backup has it
pub identifiers_differ : (set : List ShareFields) (group_threshold : ℕ) (groups : List Members) (random : List ℕ) (shares : List ShareFields)
    (old new : ShareFields) → IsShareSet set → AreSplitAnew set group_threshold groups random shares → Contains set old → Contains shares new
    → old.id ≡ new.id → ⊥
identifiers_differ set group_threshold groups random shares old new is split in_old in_new same =
    let made = split.created in
    let ok = judged_ok split.old group_threshold groups random (Ok split.encrypted) split.encrypted made.judged in
    let created = in_created_groups made.params group_threshold (length groups) groups made.split.values 0 new
    (subst (λ (xs : List ShareFields). Contains xs new) made.split.shares_are in_new) in
    let theirs : new.id ≡ made.params.id = ap (λ (s : ShareFields). s.id) created.share_is in
    let drawn : identifier_of made.new.high made.new.low ≡ split.old.id =
    sym made.new.id ∙ sym theirs ∙ sym same ∙ same_id set split.old old is split.old_are in_old in
    eqb-false (identifier_of made.new.high made.new.low) split.old.id
    (sym (ap (λ (xs : List ℕ). gives_identifier xs split.old.id) made.new.consumed) ∙ ok.1.other) drawn

-- ---- an encrypted secret gives one thing

module _ (group_threshold : ℕ) (groups : List Members) (random : List ℕ) (old : Params) (encrypted secret : List ℕ)
    (is : IsEncryption secret [] old encrypted) where
  module _ (keeps : EncryptionKeepsLengthAndBytes) (encrypts_once : SecretsHaveOneEncryption) (is_length : IsSecretLength (length secret))
      (bytes : AreBytes secret)
      (create : (secret : List ℕ) (options : Options) → IsSecretLength (length secret) → AreBytes secret
      → length random ≡ random_needed group_threshold groups (length secret)
      → (shares : List ShareFields) × IsCreatedFrom (asked_for secret [] group_threshold groups options) random shares) where
    -- what isn't refused is split
    some_made : judged_split old group_threshold groups random (Ok encrypted) ≡ Ok encrypted
        → (shares : List ShareFields) × IsCreatedFromEncrypted old group_threshold groups random encrypted shares
    some_made judged =
        let ok = (judged_ok old group_threshold groups random (Ok encrypted) encrypted judged).1 in
        let long = (keeps [] old secret encrypted is).0 in
        let (shares, created) = create secret (options_of old) is_length bytes (ok.count ∙ ap (random_needed group_threshold groups) long) in
        let again : IsEncryption secret [] created.params encrypted =
        with_other_identifier old created.params ok.extendable (created.params_are.extendable ∙ ok.extendable) (sym created.params_are.exponent)
        [] secret encrypted is in
        let (result, of_result, only) = encrypts_once [] created.params secret is_length.0 in
        let encrypted_is : created.encrypted ≡ encrypted = only created.encrypted created.encryption ∙ sym (only encrypted again) in (
          shares,
          record {
            params = created.params;
            judged = judged;
            new = record {
              high = created.high;
              low = created.low;
              levels = created.group_piece ++ concat created.pieces;
              consumed = created.consumed;
              id = created.params_are.id;
              extendable = created.params_are.extendable;
              exponent = created.params_are.exponent;
            };
            split = record {
              group_piece = created.group_piece;
              pieces = created.pieces;
              group_shares = created.group_shares;
              values = created.values;
              consumed = refl;
              groups_split = subst (λ (e : List ℕ). IsSplit group_threshold (length groups) e created.group_piece created.group_shares)
                  encrypted_is created.groups_split;
              members_split = created.members_split;
              shares_are = created.shares_are;
            };
          },
        )

    pub some_creation : (result : Result (List ShareFields) ResplitError)
        × IsCreationFromEncrypted old group_threshold groups random encrypted result
    some_creation = by (judged_split old group_threshold groups random (Ok encrypted)) refl
      where
        by : (judged : Result (List ℕ) ResplitError) → judged_split old group_threshold groups random (Ok encrypted) ≡ judged
            → (result : Result (List ShareFields) ResplitError) × IsCreationFromEncrypted old group_threshold groups random encrypted result
        by (Err error) refused = (Err error, refused)
        by (Ok kept) judged =
            let both = (judged_ok old group_threshold groups random (Ok encrypted) kept judged).0 in
            let same : kept ≡ encrypted = cc in
            let (shares, made) = some_made (judged ∙ ap (λ (e : List ℕ). Ok e) same) in (Ok shares, made)

  module _ (created_once : (asked : Asked) (shares other : List ShareFields) → IsCreatedFrom asked random shares → IsCreatedFrom asked random other
      → shares ≡ other) where
    made_once : (shares other : List ShareFields) → IsCreatedFromEncrypted old group_threshold groups random encrypted shares
        → IsCreatedFromEncrypted old group_threshold groups random encrypted other → shares ≡ other
    made_once shares other made also =
        created_once (asked_for secret [] group_threshold groups (options_of old)) shares other
        (made_is_created old group_threshold groups random encrypted shares made [] secret is)
        (made_is_created old group_threshold groups random encrypted other also [] secret is)

    pub creation_once : (result other : Result (List ShareFields) ResplitError)
        → IsCreationFromEncrypted old group_threshold groups random encrypted result
        → IsCreationFromEncrypted old group_threshold groups random encrypted other → result ≡ other
    creation_once (Ok shares) (Ok other) made also = ap (λ (xs : List ShareFields). Ok xs) (made_once shares other made also)
    creation_once (Ok shares) (Err error) made refused = absurd (let both : Ok encrypted ≡ Err error = sym made.judged ∙ refused in cc)
    creation_once (Err error) (Ok shares) refused made = absurd (let both : Ok encrypted ≡ Err error = sym made.judged ∙ refused in cc)
    creation_once (Err error) (Err other) refused also = let both : Err error ≡ Err other = sym refused ∙ also in cc

-- ---- a set gives what its encrypted secret gives

module _ (set : List ShareFields) (group_threshold : ℕ) (groups : List Members) (random : List ℕ) (names : Names) (old : Params)
    (encrypted : List ℕ) (least : IsLeastQuorum set names) (are : AreParams set old) (combined : combination_of set names ≡ Ok encrypted) where
  pub set_gives : (result : Result (List ShareFields) ResplitError) → IsCreationFromEncrypted old group_threshold groups random encrypted result
      → IsResplit set group_threshold groups random result
  set_gives (Ok shares) made = record {
    names = names;
    old = old;
    encrypted = encrypted;
    least = least;
    old_are = are;
    combined = combined;
    created = made;
  }
  set_gives (Err error) judged = inr (record {
    names = names;
    old = old;
    least = least;
    old_are = are;
    judged = ap (judged_split old group_threshold groups random) combined ∙ judged;
  })

  pub encrypted_gives : ((names others : Names) → IsLeastQuorum set names → IsLeastQuorum set others → names ≡ others) → SetsWithQuorumsHaveNone
      → (result : Result (List ShareFields) ResplitError) → IsResplit set group_threshold groups random result
      → IsCreationFromEncrypted old group_threshold groups random encrypted result
  encrypted_gives once no_lack (Ok shares) split =
      let both : Ok split.encrypted ≡ Ok encrypted =
      sym split.combined ∙ ap (combination_of set) (once split.names names split.least least) ∙ combined in
      let same : split.encrypted ≡ encrypted = cc in
      subst (λ (p : Params). IsCreatedFromEncrypted p group_threshold groups random encrypted shares)
      (one_params set split.old old split.old_are are)
      (subst (λ (e : List ℕ). IsCreatedFromEncrypted split.old group_threshold groups random e shares) same split.created)
  encrypted_gives once no_lack (Err error) (inl (lack, lacks, same)) = absurd (no_lack set names lack least.quorum lacks)
  encrypted_gives once no_lack (Err error) (inr refused) =
      sym (ap (judged_split old group_threshold groups random) combined)
      ∙ ap₂ (λ (ns : Names) (p : Params). judged_split p group_threshold groups random (combination_of set ns))
      (once names refused.names least refused.least) (one_params set old refused.old are refused.old_are)
      ∙ refused.judged

-- ---- there is one

module _ (set : List ShareFields) (group_threshold : ℕ) (groups : List Members) (random : List ℕ) (is_set : IsShareSet set)
    (outcome_of : (names : Names) → IsQuorum set names → (outcome : Result (List ℕ) Mismatch) × IsOutcome set names [] outcome) where
  pub resplit_exists : (exact : (names : Names) → IsQuorum set names → IsExactQuorum set names) (keeps : EncryptionKeepsLengthAndBytes)
      (encrypts_once : SecretsHaveOneEncryption)
      (length_of : (names : Names) (secret : List ℕ) → IsQuorum set names → Recovers set names [] secret → IsSecretLength (length secret))
      (create : (secret : List ℕ) (options : Options) → IsSecretLength (length secret) → AreBytes secret
      → length random ≡ random_needed group_threshold groups (length secret)
      → (shares : List ShareFields) × IsCreatedFrom (asked_for secret [] group_threshold groups options) random shares)
      (names : Names) → IsLeastQuorum set names
      → (result : Result (List ShareFields) ResplitError) × IsResplit set group_threshold groups random result
  resplit_exists exact keeps encrypts_once length_of create names least = by (outcome_of names least.quorum)
    where
      quorum : IsExactQuorum set names
      quorum = exact names least.quorum

      params : (params : Params) × AreParams set params
      params =
          let share = some_share set (length (groups_of names)) (group_threshold_is set names quorum) in
          params_of_share set share.0 is_set share.1

      by : (outcome : Result (List ℕ) Mismatch) × IsOutcome set names [] outcome
          → (result : Result (List ShareFields) ResplitError) × IsResplit set group_threshold groups random result
      by (Err mismatch, is) = (
        Err (DigestMismatch mismatch),
        inr (record {
          names = names;
          old = params.0;
          least = least;
          old_are = params.1;
          judged = ap (judged_split params.0 group_threshold groups random) is;
        }),
      )
      by (Ok secret, recovers) =
          let kept = keeps [] recovers.params secret recovers.encrypted recovers.secret_is in
          let bytes : AreBytes secret = kept.2 (encrypted_like set names quorum recovers.encrypted recovers.combined).1 in
          let (result, creation) = some_creation group_threshold groups random recovers.params recovers.encrypted secret recovers.secret_is keeps
          encrypts_once (length_of names secret least.quorum recovers) bytes create in (
            result,
            set_gives set group_threshold groups random names recovers.params recovers.encrypted least recovers.params_are recovers.combined
                result creation,
          )

  module _ (once : (names others : Names) → IsLeastQuorum set names → IsLeastQuorum set others → names ≡ others)
      (created_once : (asked : Asked) (shares other : List ShareFields) → IsCreatedFrom asked random shares → IsCreatedFrom asked random other
      → shares ≡ other) (one_lack : SetsHaveOneLack) (no_lack : SetsWithQuorumsHaveNone) where
    -- what is split is one thing
    split_once : (shares : List ShareFields) (other : Result (List ShareFields) ResplitError) → AreSplitAnew set group_threshold groups random shares
        → IsResplit set group_threshold groups random other → Ok shares ≡ other
    split_once shares other is also =
        let (secret, recovers) = secret_of set is.names [] is.encrypted is.combined (outcome_of is.names is.least.quorum) in
        creation_once group_threshold groups random is.old is.encrypted secret
        (split_encrypts set group_threshold groups random shares is [] secret recovers) created_once (Ok shares) other is.created
        (encrypted_gives set group_threshold groups random is.names is.old is.encrypted is.least is.old_are is.combined once no_lack other also)

    error_once : (error other : ResplitError) → IsResplit set group_threshold groups random (Err error)
        → IsResplit set group_threshold groups random (Err other) → error ≡ other
    error_once error other (inl (lack, lacks, same)) (inl (second, also, theirs)) =
        same ∙ ap (λ (l : SetLack). Lack l) (one_lack set lack second lacks also) ∙ sym theirs
    error_once error other (inl (lack, lacks, same)) (inr refused) = absurd (no_lack set refused.names lack refused.least.quorum lacks)
    error_once error other (inr refused) (inl (lack, lacks, same)) = absurd (no_lack set refused.names lack refused.least.quorum lacks)
    error_once error other (inr is) (inr also) =
        let both : Err error ≡ Err other = sym is.judged
        ∙ ap₂ (λ (ns : Names) (p : Params). judged_split p group_threshold groups random (combination_of set ns))
        (once is.names also.names is.least also.least) (one_params set is.old also.old is.old_are also.old_are) ∙ also.judged in
        cc

    pub resplit_once : (result other : Result (List ShareFields) ResplitError) → IsResplit set group_threshold groups random result
        → IsResplit set group_threshold groups random other → result ≡ other
    resplit_once (Ok shares) other r s = split_once shares other r s
    resplit_once (Err error) (Ok shares) r s = sym (split_once shares (Err error) s r)
    resplit_once (Err error) (Err other) r s = ap (λ (e : ResplitError). Err e) (error_once error other r s)
