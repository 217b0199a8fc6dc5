-- How long the mnemonics of a backup are.
use Rattle.std.proofs.Common.{◌≡◌, ℕ, ◌+◌, ◌*◌, ◌≤◌, List, [], ◌∷◌, length, ap, arith, Ok}
use Rattle.std.specs.List.{AllZip, flat_map, enumerate_from}
use Rattle.std.proofs.lemmas.List.{length-append, length-map}
use Rattle.std.proofs.lemmas.List.FromFn.{length-enumerate_from}
use Rattle.s39_kdf.specs.declared.params.Params.{Params}
use Rattle.s39_words.specs.declared.ShareFields.{ShareFields}
use Rattle.s39_words.specs.Layout.{longest_text}
use Rattle.s39_words.specs.Printing.{IsPrinted}
use Rattle.s39_set.specs.Names.{most_members}
use Rattle.s39_backup.specs.declared.plan.Members.{Members}
use Rattle.s39_backup.specs.Created.{Asked, AreSplitAmong, created_share, created_group, created_groups}
use Rattle.s39_input.specs.Create.{IsCreateOutput}
use Rattle.s39_input.specs.Input.{Input, ended_line}
use Rattle.s39_creating.specs.Lengths.{longest_backup}

-- a group has no more shares than members
group_few : (params : Params) (threshold count group : ℕ) (members : Members) (values : List (List ℕ))
    → length (created_group params threshold count group members values) ≡ length values
group_few params threshold count group members values =
    omega (
      arith,
      length-enumerate_from 0 values,
      length-map (enumerate_from 0 values) (λ (s : ℕ × List ℕ). created_share params threshold count group members s.0 s.1),
    )

shares_few : (params : Params) (threshold count group : ℕ) (groups : List Members) (shares pieces : List (List ℕ)) (values : List (List (List ℕ)))
    → AreSplitAmong groups shares pieces values → length (created_groups params threshold count group groups values) ≤ most_members * length groups
shares_few params threshold count group [] shares pieces values split = omega arith
shares_few params threshold count group (g ∷ gs) shares pieces [] split = omega arith
shares_few params threshold count group (g ∷ gs) [] pieces (v ∷ vs) split = absurd split
shares_few params threshold count group (g ∷ gs) (s ∷ ss) [] (v ∷ vs) split = absurd split
shares_few params threshold count group (g ∷ gs) (s ∷ ss) (p ∷ ps) (v ∷ vs) (here, later) =
    let rest = shares_few params threshold count (group + 1) gs ss ps vs later in
    omega (
      arith,
      rest,
      here.number,
      here.few,
      group_few params threshold count group g v,
      length-append (created_group params threshold count group g v) (created_groups params threshold count (group + 1) gs vs),
    )

module _ (printed_short : (share : ShareFields) (text : List ℕ) → IsPrinted text share → length text ≤ longest_text) where
  pub lines_short : (shares : List ShareFields) (lines : List (List ℕ)) → AllZip IsPrinted lines shares
      → length (flat_map ended_line lines) ≤ (longest_text + 1) * length shares
  lines_short [] [] printed = omega arith
  lines_short [] (line ∷ lines) printed = absurd printed
  lines_short (share ∷ shares) [] printed = absurd printed
  lines_short (share ∷ shares) (line ∷ lines) printed =
      omega (
        arith,
        lines_short shares lines printed.1,
        printed_short share line printed.0,
        length-append (ended_line line) (flat_map ended_line lines),
        length-append line (10 ∷ []),
      )

  pub backup_short : (asked : Asked) (input : Input) (text : List ℕ) → IsCreateOutput asked input text (Ok tt) → length text ≤ longest_backup
  backup_short asked input text (shares, ended, creation, are) =
      let created = creation.3 in
      let few = shares_few created.params asked.group_threshold (length asked.groups) 0 asked.groups created.group_shares created.pieces created.values
      created.members_split in
      let groups = created.groups_split.few in
      omega (arith, few, groups, ap length created.shares_are, lines_short shares are.lines are.printed, ap length are.text_is)
