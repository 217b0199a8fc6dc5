use Rattle.std.proofs.Common.{◌≡◌, ◌-◌, ◌++◌, length, refl, arith, sym, ap, ◌∙◌, length-append}
use Rattle.std.proofs.lemmas.List.{length-map, take-append-drop}
use Rattle.std.proofs.lemmas.List.Elements.{All-map}
use Rattle.s39_split.specs.Sharing.{digest_length, base_points, digest_share}
use Rattle.s39_split.specs.Shares.{bytes_of, indexed_bytes}
use Rattle.s39_split.proofs.BasePoints.{base_points-distinct, base_points-all}
use Rattle.s39_split.proofs.Splits.{split_is}
use Rattle.s39_split.proofs.sharing.split_several.Goals as goal

-- what stands in the points that are lent
pub interpolate_from-requires-clause-distinct : goal.interpolate_from-requires-clause-distinct
interpolate_from-requires-clause-distinct c =
    let same = c.cut.auto.shares in
    let count : length (bytes_of c.cut.new.shares) ≡ length c.cut.new.shares = length-map c.cut.new.shares (λ v. v.items) in
    rw (c.as_slice.ensures, c.base_points-points.ensures)
    (base_points-distinct (bytes_of c.cut.new.shares) c.digest_share-digest_share.result.items c.args.secret.now.items (omega arith))

pub interpolate_from-requires-clause-one_length : goal.interpolate_from-requires-clause-one_length
interpolate_from-requires-clause-one_length c =
    let same = c.cut.auto.shares in
    let n = length c.args.secret.now.items in (
      n,
      rw (c.as_slice.ensures, c.base_points-points.ensures)
          (base_points-all (bytes_of c.cut.new.shares) c.digest_share-digest_share.result.items c.args.secret.now.items (λ s. length s ≡ n)
          (All-map (λ s. length s ≡ n) (λ v. v.items) c.cut.new.shares
          (λ k d within. c.cut.ensures.length k d within ∙ c.len-2.ensures.value)) (omega arith) refl),
    )

pub returns : goal.returns
returns c =
    let same = c.cut.auto.shares in
    let secret = c.args.secret.now.items in
    let key = c.split_at.result.0.now in
    let random_shares = c.cut.new.shares in
    let other_shares = c.interpolate_from.new.shares in
    let are : indexed_bytes c.as_slice.result.now ≡ base_points (bytes_of random_shares) (digest_share key secret) secret =
    c.as_slice.ensures ∙ c.base_points-points.ensures ∙ ap (λ d. base_points (bytes_of random_shares) d secret) c.digest_share-digest_share.ensures.value in
    let random : c.args.random.now ≡ key ++ c.split_at.result.1.now =
    rw (c.split_at.ensures.front, c.split_at.ensures.back) (sym (take-append-drop (c.len.result - digest_length) c.args.random.now)) in
    let count : length (random_shares ++ other_shares) ≡ length c.args.out.now =
    length-append random_shares other_shares ∙ omega (arith, c.interpolate_from.auto.shares) in
    rw count at (split_is c.args.t secret c.args.random.now key random_shares other_shares c.requires.several
    (omega (arith, length-append random_shares other_shares)) (omega (arith, length-append random_shares other_shares)) (omega arith) (omega arith)
    (random ∙ ap (λ xs. key ++ xs) c.cut.ensures.whole) (rw are at c.interpolate_from.ensures))
