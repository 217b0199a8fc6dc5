use Rattle.std.proofs.Common.{◌≡◌, [], ◌++◌, length, get_or, sym, ap, ap₂, subst, ◌∙◌, arith}
use Rattle.std.proofs.lemmas.List.{length-map, get_or-map, take-append-drop}
use Rattle.std.proofs.lemmas.List.Elements.{All-map}
use Rattle.s39_split.specs.Shares.{bytes_of}
use Rattle.s39_split.specs.Sharing.{random_needed, IsSplit}
use Rattle.s39_backup.specs.declared.plan.Members.{Members}
use Rattle.s39_backup.specs.Building.{AreCreatedBefore}
use Rattle.s39_backup.proofs.Creating.{created_before-none, created_before-more, created_before-all, enough_left}
use Rattle.s39_backup.proofs.creation.push_groups.Goals as goal

pub loop-group-init : goal.loop-group-init
loop-group-init c =
    let header = c.args.header.now in
    subst (AreCreatedBefore header.params header.group_threshold header.group_count c.args.groups.now
    (bytes_of c.args.group_shares.now) c.args.random.now 0 c.args.random.now)
    (sym c.clear.ensures)
    (created_before-none header.params header.group_threshold header.group_count c.args.groups.now (bytes_of c.args.group_shares.now) c.args.random.now)

pub split_at-requires : goal.split_at-requires
split_at-requires c =
    let header = c.args.header.now in
    let shares = c.args.group_shares.now in
    let group = c.loop-group.group in
    let blank : Members = record { threshold = 0; count = 0 } in
    let n = c.requires.lengths.0 in
    let left = enough_left header.params header.group_threshold header.group_count c.args.groups.now (bytes_of shares) c.args.random.now
    group c.loop-group.rest.now c.loop-group.out blank [] c.loop-group.invariant c.loop-group-test.true
    (length-map shares (λ share. share.items) ∙ c.requires.as_many) n
    (All-map (λ share. length share ≡ n) (λ share. share.items) shares c.requires.lengths.1) c.requires.lengths.2.1 in
    let same : length c.index-group_shares-group.result.items ≡ n =
    ap (λ v. length v.items) c.index-group_shares-group.is ∙ c.requires.lengths.1 group c.index-group_shares-group.result (omega arith) in
    let needed : c.random_needed-needed.result ≡ random_needed (get_or c.args.groups.now group blank).threshold n =
    c.random_needed-needed.ensures ∙ ap (random_needed (get_or c.args.groups.now group blank).threshold) (c.len.ensures.value ∙ same) in
    omega arith

pub loop-group-preserved : goal.loop-group-preserved
loop-group-preserved c =
    let header = c.args.header.now in
    let shares = c.args.group_shares.now in
    let group = c.loop-group.group in
    let share = c.index-group_shares-group.result in
    let blank : Members = record { threshold = 0; count = 0 } in
    let members = get_or c.args.groups.now group blank in
    let count : length (bytes_of shares) ≡ length c.args.groups.now = length-map shares (λ s. s.items) ∙ c.requires.as_many in
    let share_is : share.items ≡ get_or (bytes_of shares) group [] =
    ap (λ v. v.items) c.index-group_shares-group.is ∙ sym (get_or-map (λ v. v.items) shares group share [] (omega arith)) in
    created_before-more header.params header.group_threshold header.group_count c.args.groups.now (bytes_of shares) c.args.random.now
    group c.loop-group.rest.now c.loop-group.out blank [] c.loop-group.invariant c.loop-group-test.true count
    c.split_at.result.0.now c.split_at.result.1.now c.push_group.ensures.shares.0 c.push_group.new.out
    (sym (take-append-drop c.random_needed-needed.result c.loop-group.rest.now)
    ∙ ap₂ (λ xs ys. xs ++ ys) (sym c.split_at.ensures.front) (sym c.split_at.ensures.back))
    (c.split_at.ensures.front_len ∙ c.random_needed-needed.ensures ∙ ap (random_needed members.threshold) (c.len.ensures.value ∙ ap length share_is))
    (subst (λ s. IsSplit members.threshold members.count s c.split_at.result.0.now c.push_group.ensures.shares.0) share_is c.push_group.ensures.shares.1)
    c.push_group.ensures.shares.2
    c.push_group.ensures.room

pub returns : goal.returns
returns c =
    let header = c.args.header.now in
    let shares = c.args.group_shares.now in
    created_before-all header.params header.group_threshold header.group_count c.args.groups.now (bytes_of shares) c.args.random.now
    c.loop-group.group c.loop-group.rest.now c.loop-group.out c.requires.lengths.0 c.loop-group.invariant (omega arith)
    (length-map shares (λ share. share.items) ∙ c.requires.as_many)
    (All-map (λ share. length share ≡ c.requires.lengths.0) (λ share. share.items) shares c.requires.lengths.1)
    c.requires.lengths.2.1
