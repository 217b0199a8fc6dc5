use Rattle.std.proofs.Common.{◌≡◌, ℕ, ◌%◌, List, Result, Ok, Err, IsOkAnd, sym, ap, subst, ◌∙◌, arith}
use Rattle.std.specs.Option.{ok_or}
use Rattle.std.proofs.lemmas.Result.{err_from_is_err_and}
use Rattle.arrayvec.specs.ArrayVec.{ArrayVec}
use Rattle.s39_lists.specs.Each.{and_then, each}
use Rattle.s39_split.specs.Recovery.{combined}
use Rattle.s39_backup.specs.declared.combination.Mismatch.{Mismatch}
use Rattle.s39_backup.specs.declared.combination.Mismatch.TheVariants.{OfGroups}
use Rattle.s39_backup.specs.Created.{AreOfBackup}
use Rattle.s39_backup.specs.Combination.{combination_of, in_bytes, group_share, groups_of}
use Rattle.s39_backup.specs.GroupShares.{value_bytes_of, IsExactQuorum}
use Rattle.s39_backup.proofs.Combining.{ok_with}
use Rattle.s39_backup.proofs.Values.{values_agree}
use Rattle.s39_backup.proofs.Levels.{value_bytes-even, groups_of_one_level, encrypted_like}
use Rattle.s39_backup.proofs.combination.combine_quorum.Goals as goal
use Rattle.s39_backup.proofs.combination.combine_quorum.Goals.{After-pairs, After-lend}

exact : (c : After-pairs) → IsExactQuorum c.args.set.now c.args.quorum.now
exact c = record {
  is_set = c.are_a_share_set.ensures;
  exact = (c.quorums_are_exact.ensures c.args.set.now c.args.quorum.now c.are_a_share_set.ensures).0 c.requires;
}

pub group_shares-requires : goal.group_shares-requires
group_shares-requires c = record {
  quorum = subst (IsExactQuorum c.args.set.now) (sym c.pairs.ensures.same) (exact (goal.at.group_shares-requires c).After-pairs);
  empty = c.new-shares.ensures;
}

-- the shares of the groups
all : (c : After-lend) → each (group_share c.args.set.now c.args.quorum.now) (groups_of c.args.quorum.now) ≡ Ok c.lend.result
all c =
    subst (λ names. each (group_share c.args.set.now names) (groups_of names) ≡ Ok c.lend.result) c.pairs.ensures.same
    (c.in_ok-group_shares.ensures ∙ ap (λ pairs. Ok pairs) (sym c.lend.ensures))

pub combine_all-requires : goal.combine_all-requires
combine_all-requires c =
    let d = goal.at.combine_all-requires c in (
      value_bytes_of c.args.set.now,
      groups_of_one_level c.args.set.now c.args.quorum.now (exact d.After-pairs) c.lend.result (all d.After-lend),
    )

-- what the code answers
pub returns-in_err-group_shares-clause-combination : goal.returns-in_err-group_shares-clause-combination
unfolding combination_of
returns-in_err-group_shares-clause-combination c =
    let error = err_from_is_err_and c.from_residual.result c.from_residual.ensures.1 in
    let refused = subst (λ names. each (group_share c.args.set.now names) (groups_of names) ≡ Err c.in_err-group_shares.field-0.0) c.pairs.ensures.same
    c.in_err-group_shares.ensures in
    rw (error.1, error.2) (ap (and_then (λ shares. ok_or (combined shares) OfGroups)) refused)

pub returns-in-Ok-clause-combination : goal.returns-in-Ok-clause-combination
unfolding combination_of
returns-in-Ok-clause-combination c =
    let d = (goal.at.returns-in-Ok-clause-combination c).After-lend in
    ap (and_then (λ shares. ok_or (combined shares) OfGroups)) (all d) ∙ ap (λ o. ok_or o OfGroups) (sym c.in-Ok.ensures)

pub returns-in-Err-clause-combination : goal.returns-in-Err-clause-combination
unfolding combination_of
returns-in-Err-clause-combination c =
    let d = (goal.at.returns-in-Err-clause-combination c).After-lend in
    ap (and_then (λ shares. ok_or (combined shares) OfGroups)) (all d) ∙ ap (λ o. ok_or o OfGroups) (sym c.in-Err.ensures)

-- it is like the values of the set
pub returns-in-Ok-clause-length : goal.returns-in-Ok-clause-length
returns-in-Ok-clause-length c = λ k e below.
    let d = (goal.at.returns-in-Ok-clause-length c).After-pairs in
    values_agree c.args.set.now c.are_a_share_set.ensures k e below
    ∙ sym (encrypted_like c.args.set.now c.args.quorum.now (exact d) c.in-Ok.encrypted.items (returns-in-Ok-clause-combination c)).0

pub returns-in-Ok-clause-even : goal.returns-in-Ok-clause-even
returns-in-Ok-clause-even c =
    let d = (goal.at.returns-in-Ok-clause-even c).After-pairs in
    ap (λ n. n % 2) (encrypted_like c.args.set.now c.args.quorum.now (exact d) c.in-Ok.encrypted.items (returns-in-Ok-clause-combination c)).0
    ∙ value_bytes-even c.args.set.now c.args.quorum.now (exact d)

pub returns-in-Ok-clause-long : goal.returns-in-Ok-clause-long
returns-in-Ok-clause-long c =
    let d = goal.at.returns-in-Ok-clause-long c in
    let long = (groups_of_one_level c.args.set.now c.args.quorum.now (exact d.After-pairs) c.lend.result (all d.After-lend)).long in
    let same = (encrypted_like c.args.set.now c.args.quorum.now (exact d.After-pairs) c.in-Ok.encrypted.items (returns-in-Ok-clause-combination c)).0 in
    omega arith

-- a created backup's encrypted secret is the one combination
created : (c : After-pairs) (passphrase secret : List ℕ) (backup : AreOfBackup c.args.set.now passphrase secret)
    → (result : Result (ArrayVec ℕ) Mismatch)
    → combination_of c.args.set.now c.args.quorum.now ≡ in_bytes result
    → IsOkAnd result (λ e. e.items ≡ backup.created.encrypted)
created c passphrase secret backup result is =
    ok_with result backup.created.encrypted
    (sym is ∙ c.every_quorum_combines.ensures c.args.set.now c.args.quorum.now passphrase secret c.are_a_share_set.ensures c.requires backup)

pub returns-in_err-group_shares-clause-created : goal.returns-in_err-group_shares-clause-created
returns-in_err-group_shares-clause-created c = λ passphrase secret backup.
    created (goal.at.returns-in_err-group_shares-clause-created c).After-pairs passphrase secret backup c.from_residual.result
    (returns-in_err-group_shares-clause-combination c)

pub returns-in-Ok-clause-created : goal.returns-in-Ok-clause-created
returns-in-Ok-clause-created c = λ passphrase secret backup.
    created (goal.at.returns-in-Ok-clause-created c).After-pairs passphrase secret backup (Ok c.in-Ok.encrypted) (returns-in-Ok-clause-combination c)

pub returns-in-Err-clause-created : goal.returns-in-Err-clause-created
returns-in-Err-clause-created c = λ passphrase secret backup.
    created (goal.at.returns-in-Err-clause-created c).After-pairs passphrase secret backup (Err OfGroups) (returns-in-Err-clause-combination c)
