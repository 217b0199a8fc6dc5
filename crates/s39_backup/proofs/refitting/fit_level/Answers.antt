use Rattle.std.proofs.Common.{◌≡◌, ℕ, ◌-◌, ◌<◌, ◌≤◌, List, ◌++◌, length, take, All, Some, sym, ap, subst, ◌∙◌, arith}
use Rattle.std.proofs.lemmas.List.{length-map, length-take-le, take_at}
use Rattle.std.proofs.lemmas.List.Elements.{All-map, Contains-get_or}
use Rattle.std.specs.List.{slice_get}
use Rattle.s39_split.specs.Shares.{bytes_of, indexed_bytes, AreDistinct}
use Rattle.s39_split.specs.Sharing.{most_shares, digest_length, random_needed, IsSplit}
use Rattle.s39_split.proofs.SplitLaws.{random_needed-several}
use Rattle.s39_backup.proofs.Chosen.{lent, lent-distinct, lent-indices, lent-lengths, same_at}
use Rattle.s39_backup.proofs.refitting.fit_level.Goals as goal

-- bytes that begin with the key of others
take_key : (t n m : ℕ) (random fitted rest : List ℕ) → 2 ≤ t → digest_length ≤ n → m ≡ n → length random ≡ random_needed t n
    → fitted ≡ take (m - digest_length) random ++ rest → take (n - digest_length) random ≡ take (n - digest_length) fitted
take_key t n m random fitted rest several long same needed begins =
    let size : m - digest_length ≡ n - digest_length = ap (λ k. k - digest_length) same in
    let key : length (take (m - digest_length) random) ≡ n - digest_length =
    length-take-le (m - digest_length) random (omega (arith, needed, random_needed-several t n (omega arith), size)) ∙ size in
    ap (λ k. take k random) (sym size) ∙ sym (take_at (take (m - digest_length) random) rest (n - digest_length) key)
    ∙ ap (take (n - digest_length)) (sym begins)

pub fit-fitted-requires-clause-distinct : goal.fit-fitted-requires-clause-distinct
fit-fitted-requires-clause-distinct c =
    let shares = bytes_of c.args.shares.now in
    let indices = c.with_lowest-indices.result.items in
    let known : indexed_bytes c.as_slice-2.result.now ≡ lent shares indices =
    c.as_slice-2.ensures ∙ c.lend-known.ensures ∙ ap (lent shares) c.as_slice.ensures.value in
    subst AreDistinct (sym known) (lent-distinct shares indices c.with_lowest-indices.ensures.ascending)

pub fit-fitted-requires-clause-indices : goal.fit-fitted-requires-clause-indices
fit-fitted-requires-clause-indices c =
    let shares = bytes_of c.args.shares.now in
    let indices = c.with_lowest-indices.result.items in
    let known : indexed_bytes c.as_slice-2.result.now ≡ lent shares indices =
    c.as_slice-2.ensures ∙ c.lend-known.ensures ∙ ap (lent shares) c.as_slice.ensures.value in
    subst (All (λ s. s.0 < most_shares)) (sym known)
    (lent-indices shares indices most_shares
    (λ k d within. let less = c.with_lowest-indices.ensures.below k d within in let few = c.requires.few in omega arith))

pub fit-fitted-requires-clause-one_length : goal.fit-fitted-requires-clause-one_length
fit-fitted-requires-clause-one_length c =
    let shares = bytes_of c.args.shares.now in
    let indices = c.with_lowest-indices.result.items in
    let n = length c.args.secret.now.items in
    let known : indexed_bytes c.as_slice-2.result.now ≡ lent shares indices =
    c.as_slice-2.ensures ∙ c.lend-known.ensures ∙ ap (lent shares) c.as_slice.ensures.value in
    subst (All (λ s. length s.1 ≡ n)) (sym known)
    (lent-lengths shares indices n
    (λ k d within. let less = c.with_lowest-indices.ensures.below k d within in omega (arith, length-map c.args.shares.now (λ v. v.items)))
    (All-map (λ s. length s ≡ n) (λ v. v.items) c.args.shares.now c.requires.one_length))

pub returns : goal.returns
returns c =
    let shares = bytes_of c.args.shares.now in
    let indices = c.with_lowest-indices.result.items in
    let known : indexed_bytes c.as_slice-2.result.now ≡ lent shares indices =
    c.as_slice-2.ensures ∙ c.lend-known.ensures ∙ ap (lent shares) c.as_slice.ensures.value in
    let is : c.copy_from_slice.new.self ≡ c.fit-fitted.result.items = c.copy_from_slice.ensures.after ∙ c.deref.ensures.0 in
    let fits = c.fit-fitted.ensures.fits in
    let chosen = subst (λ ks. All (λ s. slice_get fits.shares s.0 ≡ Some s.1) ks) known fits.known_among.belong in
    let lowest = c.with_lowest-indices.ensures in
    let key = take_key c.args.t (length c.args.secret.now.items) c.len-key_length.result c.args.random.now c.fit-fitted.result.items fits.rest
    c.requires.several (omega (arith, c.requires.long)) c.len-key_length.ensures.value c.requires.random fits.begins in
    let below : All (λ i. i < length shares) indices =
    λ k d within. let less = lowest.below k d within in omega (arith, length-map c.args.shares.now (λ v. v.items)) in (
      fits.shares,
      subst (λ r. IsSplit c.args.t most_shares c.args.secret.now.items r fits.shares) (sym is) fits.split,
      record {
        indices = indices;
        staying = record { ascending = lowest.ascending; number = lowest.number; among = lowest.kept; lowest = lowest.lowest };
        below = below;
        same = same_at shares fits.shares indices indices (λ k d within. Contains-get_or indices k d within) below chosen;
        key = key ∙ ap (take (length c.args.secret.now.items - digest_length)) (sym is);
      },
    )
