use Rattle.std.proofs.Common.{◌≡◌, ◌≢◌, ℕ, true, ◌<◌, ◌≤◌, List, [], length, get_or, take, drop, Some, arith, sym, ap, ap₂, ◌∙◌}
use Rattle.std.proofs.lemmas.List.{length-map, get_or-map}
use Rattle.s39_kdf.specs.Limits.{shortest_secret}
use Rattle.s39_split.specs.Shares.{indexed_bytes}
use Rattle.s39_split.specs.Sharing.{digest_length, digest_place, secret_place, digest_of}
use Rattle.s39_split.specs.Recovery.{checked, combined}
use Rattle.s39_lists.proofs.Pairs.{All-from_same}
use Rattle.s39_split.proofs.Columns.{all_rows, same_length}
use Rattle.s39_split.proofs.Interpolations.{none}
use Rattle.s39_split.proofs.OneOutcome.{interpolated_once, combined_one, combined_several, checked_same, checked_other}
use Rattle.s39_split.proofs.recovery.combine_points.Goals as goal
use Rattle.s39_split.proofs.recovery.combine_points.Goals.{After-interpolate-digest_share}

pub interpolate-secret-requires-clause-one_length : goal.interpolate-secret-requires-clause-one_length
interpolate-secret-requires-clause-one_length c = All-from_same (λ s. length s.1) (indexed_bytes c.args.points.now) c.requires.one_length

pub interpolate-digest_share-requires-clause-one_length : goal.interpolate-digest_share-requires-clause-one_length
interpolate-digest_share-requires-clause-one_length c = All-from_same (λ s. length s.1) (indexed_bytes c.args.points.now) c.requires.one_length

pub returns-then-t-eq1-clause-combined : goal.returns-then-t-eq1-clause-combined
returns-then-t-eq1-clause-combined c =
    let points = c.args.points.now in
    let one : length (indexed_bytes points) ≡ 1 = length-map points (λ s. (s.0, s.1.now.items)) ∙ c.requires.number ∙ c.if-t-eq1.true in
    let first : get_or (indexed_bytes points) 0 none ≡ ((get_or points 0 c.index-points-0.result).0, (get_or points 0 c.index-points-0.result).1.now.items) =
    get_or-map (λ s. (s.0, s.1.now.items)) points 0 c.index-points-0.result none (omega arith) in
    ap Some (c.copied.ensures ∙ sym (ap (λ (s : ℕ × List ℕ). s.1) first)) ∙ sym (combined_one (indexed_bytes points) none one)

pub returns-then-t-eq1-clause-length : goal.returns-then-t-eq1-clause-length
returns-then-t-eq1-clause-length c = λ n rows.
    ap length c.copied.ensures ∙ all_rows c.args.points.now n rows 0 c.index-points-0.result (omega arith)

pub split_at-requires : goal.split_at-requires
split_at-requires c =
    let points = indexed_bytes c.args.points.now in
    let count : length points ≡ length c.args.points.now = length-map c.args.points.now (λ s. (s.0, s.1.now.items)) in
    let some : 0 < length points = omega arith in
    let long : shortest_secret ≤ length c.interpolate-digest_share.result.items =
    omega (arith, c.requires.long 0 (0, []) some, c.interpolate-digest_share.ensures.value.one_length 0 (0, []) some) in
    omega (arith, ap length c.deref.ensures.0)

pub returns-then-is_digest-clause-length : goal.returns-then-is_digest-clause-length
returns-then-is_digest-clause-length c = λ n rows.
    let points = indexed_bytes c.args.points.now in
    let count : length points ≡ length c.args.points.now = length-map c.args.points.now (λ s. (s.0, s.1.now.items)) in
    same_length points (length c.interpolate-secret.result.items) n (omega arith) rows c.interpolate-secret.ensures.value.one_length

-- what is checked
is_checked : (c : After-interpolate-digest_share) → combined (indexed_bytes c.args.points.now)
    ≡ checked c.interpolate-secret.result.items c.interpolate-digest_share.result.items
is_checked c =
    let points = indexed_bytes c.args.points.now in
    let count : length points ≡ length c.args.points.now = length-map c.args.points.now (λ s. (s.0, s.1.now.items)) in
    combined_several points (omega arith)
    ∙ sym (ap₂ checked
    (interpolated_once points secret_place c.interpolate-secret.result.items (omega arith) c.requires.places c.requires.distinct
    c.interpolate-secret.ensures.value)
    (interpolated_once points digest_place c.interpolate-digest_share.result.items (omega arith) c.requires.places c.requires.distinct
    c.interpolate-digest_share.ensures.value))

pub returns-then-is_digest-clause-combined : goal.returns-then-is_digest-clause-combined
returns-then-is_digest-clause-combined c =
    let digest = c.interpolate-digest_share.result.items in
    let secret = c.interpolate-secret.result.items in
    let same : take digest_length digest ≡ digest_of (drop digest_length digest) secret =
    let equal = c.is_digest.ensures.0 c.if-is_digest.true in
    cc in
    sym (is_checked (goal.at.returns-then-is_digest-clause-combined c).After-interpolate-digest_share ∙ checked_same secret digest same)

pub returns-else-is_digest-clause-combined : goal.returns-else-is_digest-clause-combined
returns-else-is_digest-clause-combined c =
    let digest = c.interpolate-digest_share.result.items in
    let secret = c.interpolate-secret.result.items in
    let other : take digest_length digest ≢ digest_of (drop digest_length digest) secret = λ same.
    let passes : c.is_digest.result ≡ true = c.is_digest.ensures.1 cc in
    cc in
    sym (is_checked (goal.at.returns-else-is_digest-clause-combined c).After-interpolate-digest_share ∙ checked_other secret digest other)
