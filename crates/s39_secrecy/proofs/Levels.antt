-- Random bytes of a level have a corresponding list.
use Rattle.std.proofs.Common.{◌≡◌, ◌≢◌, ℕ, zero, suc, ◌+◌, ◌-◌, ◌<◌, ◌≤◌, List, [], ◌∷◌, ◌++◌, length, get_or, take, All, AllPairs}
use Rattle.std.proofs.Common.{refl, sym, ap, subst, ◌∙◌, inl, inr, arith}
use Rattle.std.proofs.lemmas.Bool.{cases_lt, cases_eq}
use Rattle.std.proofs.lemmas.List.{length-map, length-take-le, take_at}
use Rattle.std.proofs.lemmas.List.Elements.{All-map, All-take, Contains-get_or}
use Rattle.s39_kdf.specs.Bytes.{AreBytes}
use Rattle.s39_split.specs.Sharing.{most_shares, digest_length, random_needed}
use Rattle.s39_split.proofs.SplitLaws.{random_needed-several, shares_are_bytes, have_a_split, first_shares_are_a_split}
use Rattle.s39_split.proofs.Choices.{length-shares}
use Rattle.s39_backup.specs.Correspondence.{AreStaying, CorrespondAtLevel}
use Rattle.s39_backup.specs.Refitting.{AreKept}
use Rattle.s39_split.proofs.FittedPoints.{AreKnown}
use Rattle.s39_secrecy.proofs.KnownShares.{have_fitting}
use Rattle.s39_backup.proofs.Chosen.{AreChosen, chosen-nothing, chosen-kept, chosen-other, chosen-without, chosen-all, chosen-kept_all}
use Rattle.s39_backup.proofs.Chosen.{lent, lent-distinct, lent-indices, lent-lengths, same_at, same_in_first, none_stay}

-- ---- the indices that stay

-- what was taken below an index
record HaveChosen (kept : List ℕ) (number index : ℕ) : Type 0 where
  pub next : ℕ
  pub others : ℕ
  pub indices : List ℕ
  pub chosen : AreChosen kept number index next others indices

module _ (kept : List ℕ) (sorted : AllPairs (λ a b. a < b) kept) (number : ℕ) where
  -- an index that isn't kept is taken if some are left to take
  choose_other : (index : ℕ) (before : HaveChosen kept number index) → (before.next < length kept → get_or kept before.next 0 ≢ index)
      → HaveChosen kept number (index + 1)
  choose_other index before other = elim (cases_lt 0 before.others) [
    | inl some ↦ record {
      next = before.next;
      others = before.others - 1;
      indices = before.indices ++ index ∷ [];
      chosen = chosen-other kept sorted number index before.next before.others before.indices before.chosen other (before.others - 1) (omega arith);
    }
    | inr none ↦ record {
      next = before.next;
      others = before.others;
      indices = before.indices;
      chosen = chosen-without kept sorted number index before.next before.others before.indices before.chosen other (omega arith);
    }
  ]

  -- one index more
  choose_more : (index : ℕ) → HaveChosen kept number index → HaveChosen kept number (index + 1)
  choose_more index before = elim (cases_lt before.next (length kept)) [
    | inr done ↦ choose_other index before (λ within. absurd (omega arith))
    | inl within ↦ elim (cases_eq (get_or kept before.next 0) index) [
      | inr other ↦ choose_other index before (λ _. other)
      | inl here ↦ record {
        next = before.next + 1;
        others = before.others;
        indices = before.indices ++ index ∷ [];
        chosen = chosen-kept kept sorted number index before.next before.others before.indices before.chosen within here;
      }
    ]
  ]

  choose : length kept ≤ number → (index : ℕ) → HaveChosen kept number index
  choose few zero = record {
    next = 0;
    others = number - length kept;
    indices = [];
    chosen = chosen-nothing kept number (number - length kept) (omega arith);
  }
  choose few (suc index) =
      let next : index + 1 ≡ suc index = omega arith in
      subst (HaveChosen kept number) next (choose_more index (choose few index))

-- the indices that stay
record HaveStaying (threshold count : ℕ) (kept : List ℕ) : Type 0 where
  pub indices : List ℕ
  pub staying : AreStaying threshold kept indices
  pub below : All (λ index. index < count) indices

have_staying : (threshold count : ℕ) (kept : List ℕ) → AreKept threshold count kept → threshold - 2 ≤ count → HaveStaying threshold count kept
have_staying threshold count kept are enough =
    let have = choose kept are.ascending (threshold - 2) are.few count in
    let chosen = have.chosen in
    let all : have.next ≡ length kept =
    chosen-all kept are.ascending (threshold - 2) count have.next have.others have.indices chosen count are.below refl in
    let counted = chosen.counted in
    let number : length have.indices ≡ threshold - 2 = elim (cases_lt 0 have.others) [
      | inl some ↦ let full = chosen.full some in omega arith
      | inr none ↦ omega arith
    ] in
    record {
      indices = have.indices;
      staying = record {
        ascending = chosen.ascending;
        number = number;
        among = chosen-kept_all kept are.ascending (threshold - 2) count have.next have.others have.indices chosen count are.below refl;
        lowest = chosen.lowest;
      };
      below = chosen.below;
    }

-- ---- a level

-- random bytes that correspond to these at a level
pub record HaveLevel (threshold count : ℕ) (secret other kept random : List ℕ) : Type 0 where
  pub fitted : List ℕ
  pub shares : List (List ℕ)
  pub others : List (List ℕ)
  pub levels : CorrespondAtLevel threshold count secret other kept random fitted shares others
  pub bytes : AreBytes fitted

module _ (threshold count : ℕ) (secret other kept random : List ℕ) (positive : 1 ≤ threshold) (enough : threshold ≤ count) (few : count ≤ most_shares)
    (long : digest_length ≤ length secret) (one_length : length other ≡ length secret) (of_secret : AreBytes secret) (of_other : AreBytes other)
    (of_random : AreBytes random) (needed : length random ≡ random_needed threshold (length secret)) (are_kept : AreKept threshold count kept) where
  -- where several shares are needed
  have_level-several : 1 < threshold → HaveLevel threshold count secret other kept random
  have_level-several several =
      let n = length secret in
      let key = take (n - digest_length) random in
      let (shares, split) = have_a_split threshold count secret random positive enough few long of_secret of_random needed in
      let staying = have_staying threshold count kept are_kept (omega arith) in
      let indices = staying.indices in
      let known = lent shares indices in
      let number : length shares ≡ count = split.number in
      let key_long : length key ≡ n - digest_length =
      length-take-le (n - digest_length) random (omega (arith, needed, random_needed-several threshold n several)) in
      let below : All (λ i. i < length shares) indices = λ k d within. let less = staying.below k d within in omega (arith, number) in
      let share_bytes = shares_are_bytes threshold count secret random shares split of_secret of_random in
      let are : AreKnown threshold other key known = record {
        several = several;
        few = omega arith;
        key_length = omega (arith, key_long, one_length, long);
        number = omega (arith, length-map {B = ℕ × List ℕ} indices (λ i. (i, get_or shares i [])), staying.staying.number, several);
        distinct = lent-distinct shares indices staying.staying.ascending;
        indices = lent-indices shares indices most_shares (λ k d within. let less = staying.below k d within in omega arith);
        lengths = lent-lengths shares indices (length other) below
            (λ k d within. length-shares threshold count secret random shares split k d within ∙ sym one_length);
      } in
      let fitting = have_fitting threshold other key known are of_other (All-take (λ byte. byte < 256) (n - digest_length) random of_random)
      (All-map (λ s. AreBytes s.1) (λ i. (i, get_or shares i [])) indices (λ k d within. share_bytes (get_or indices k d) [] (below k d within))) in
      let fit = fitting.fit in
      let whole : length fit.shares ≡ most_shares = fit.split.number in
      record {
        fitted = fitting.random;
        shares = shares;
        others = take count fit.shares;
        levels = record {
          split = split;
          refitted = first_shares_are_a_split threshold most_shares count other fitting.random fit.shares fit.split enough few;
          stay = record {
            indices = indices;
            staying = staying.staying;
            below = below;
            same = same_in_first shares fit.shares (take count fit.shares) indices count staying.below
                (same_at shares fit.shares indices indices (λ k d within. Contains-get_or indices k d within) below fit.known_among.belong)
                (omega (arith, whole)) refl;
            key = sym (take_at key fit.rest (n - digest_length) key_long) ∙ ap (take (n - digest_length)) (sym fit.begins);
          };
        };
        bytes = fitting.bytes;
      }

  -- where one share is enough, it takes no random bytes
  have_level-one : threshold ≤ 1 → HaveLevel threshold count secret other kept random
  have_level-one one =
      let is : threshold ≡ 1 = omega arith in
      let (shares, split) = have_a_split threshold count secret random positive enough few long of_secret of_random needed in
      let also : length random ≡ random_needed threshold (length other) = needed ∙ ap (random_needed threshold) (sym one_length) in
      let (others, refitted) = have_a_split threshold count other random positive enough few (omega (arith, one_length)) of_other of_random also in
      record {
        fitted = random;
        shares = shares;
        others = others;
        levels = record {
          split = split;
          refitted = refitted;
          stay = none_stay threshold secret kept random shares others one are_kept.few;
        };
        bytes = of_random;
      }

  pub have_level : HaveLevel threshold count secret other kept random
  have_level = elim (cases_lt 1 threshold) [ inl several ↦ have_level-several several | inr one ↦ have_level-one one ]
