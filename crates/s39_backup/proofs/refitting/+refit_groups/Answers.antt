use Rattle.std.proofs.Common.{◌≡◌, ℕ, ◌+◌, ◌<◌, ◌∷◌, length, get_or, All, sym, ap, subst, ◌∙◌, arith}
use Rattle.std.proofs.lemmas.List.{length-map}
use Rattle.s39_split.specs.Shares.{bytes_of}
use Rattle.s39_split.specs.Sharing.{random_needed as level_random_needed}
use Rattle.s39_set.specs.Names.{names_in_group}
use Rattle.s39_backup.specs.declared.plan.Members.{Members}
use Rattle.arrayvec.specs.ArrayVec.{array_vec_len}
use Rattle.s39_backup.specs.Plan.{IsGroup}
use Rattle.s39_backup.proofs.Refitted.{refitted-empty, refitted-whole}
use Rattle.s39_backup.proofs.AfterFirst.{after_first, first_and_rest, sum_by-empty, sum_by-first_and_rest}
use Rattle.s39_backup.proofs.AfterFirst.{All-after_first, length-after_first, get_or-after_first}
use Rattle.s39_backup.proofs.refitting.+refit_groups.Goals as goal

pub returns-then-is_empty : goal.returns-then-is_empty
returns-then-is_empty t c =
    let groups = c.args.groups.now in
    let none : length groups ≡ 0 = grind (arith, c.is_empty.ensures, c.if-is_empty.true) in
    let lengths = c.requires.lengths in
    refitted-empty c.args.names.now c.args.group groups (bytes_of c.args.shares.now) (bytes_of c.args.others.now) c.args.random.now none
    (length-map c.args.shares.now (λ v. v.items) ∙ c.requires.as_many ∙ none)
    (length-map c.args.others.now (λ v. v.items) ∙ c.requires.as_many_others ∙ none)
    (lengths.2.2 ∙ sum_by-empty (λ members. level_random_needed members.threshold lengths.0) groups none)

pub refit_group-requires-clause-of_plan : goal.refit_group-requires-clause-of_plan
refit_group-requires-clause-of_plan t c =
    let blank : Members = record { threshold = 0; count = 0 } in
    let groups = c.args.groups.now in
    let some : 0 < length groups = grind (arith, c.is_empty.ensures, c.if-is_empty.false) in
    let here : c.args.group + 0 ≡ c.args.group = omega arith in
    subst (λ (group : ℕ). All (λ name. name.1 < (get_or groups 0 blank).count) (names_in_group group c.args.names.now)) here
    (c.requires.of_plan 0 blank some)

pub refit_groups-requires : goal.refit_groups-requires
refit_groups-requires t c =
    let blank : Members = record { threshold = 0; count = 0 } in
    let names = c.args.names.now in
    let group = c.args.group in
    let groups = c.args.groups.now in
    let shares = c.args.shares.now in
    let others = c.args.others.now in
    let some : 0 < length groups = grind (arith, c.is_empty.ensures, c.if-is_empty.false) in
    let (n, lengths, (is_length, other_lengths, random)) = c.requires.lengths in
    let each = λ (members : Members). level_random_needed members.threshold n in
    let long : c.len.result ≡ n = c.len.ensures.value ∙ ap array_vec_len c.index-shares-0.is ∙ lengths 0 c.index-shares-0.result (omega arith) in
    let needed : c.random_needed-needed.result ≡ each (get_or groups 0 blank) =
    c.random_needed-needed.ensures ∙ ap (level_random_needed (get_or groups 0 blank).threshold) long in
    let parts = sum_by-first_and_rest each groups blank some in
    let place = λ (i : ℕ). let next : group + (i + 1) ≡ (group + 1) + i = omega arith in next in (
      omega (arith, length-after_first groups),
      (
        c.requires.names,
        (
          All-after_first IsGroup groups c.requires.groups,
          (
            omega (arith, length-after_first groups),
            (
              omega (arith, length-after_first groups, length-after_first shares),
              (
                omega (arith, length-after_first groups, length-after_first others),
                (
                  (
                    n,
                    All-after_first (λ share. array_vec_len share ≡ n) shares lengths,
                    (
                      is_length,
                      All-after_first (λ share. array_vec_len share ≡ n) others other_lengths,
                      omega (arith, c.split_at_mut-piece.ensures.back_len, random, parts, needed),
                    ),
                  ),
                  λ i d within.
                      rw (sym (place i), get_or-after_first groups i d) (c.requires.of_plan (i + 1) d (omega (arith, length-after_first groups))),
                ),
              ),
            ),
          ),
        ),
      ),
    )

pub returns : goal.returns
returns t c =
    let blank : Members = record { threshold = 0; count = 0 } in
    let groups = c.args.groups.now in
    let shares = c.args.shares.now in
    let others = c.args.others.now in
    let share = c.index-shares-0-2.result in
    let other = c.index-others-0.result in
    let some : 0 < length groups = grind (arith, c.is_empty.ensures, c.if-is_empty.false) in
    refitted-whole c.args.names.now c.args.group groups (bytes_of shares) (bytes_of others) c.args.random.now
    (get_or groups 0 blank) (after_first groups) share.items other.items (bytes_of (after_first shares)) (bytes_of (after_first others))
    c.split_at_mut-piece.result.0.now c.refit_group.new.random c.split_at_mut-piece.result.1.now c.refit_groups.new.random
    (first_and_rest groups blank some)
    (ap bytes_of (ap (λ s. s ∷ after_first shares) c.index-shares-0-2.is ∙ first_and_rest shares share (omega arith)))
    (ap bytes_of (ap (λ s. s ∷ after_first others) c.index-others-0.is ∙ first_and_rest others other (omega arith)))
    c.split_at_mut-piece.ensures.value c.refit_group.ensures c.refit_groups.ensures
