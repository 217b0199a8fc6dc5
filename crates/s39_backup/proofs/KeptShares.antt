-- Backups from random bytes that correspond have the shares of the names in common.
use Rattle.std.proofs.Common.{◌≡◌, ℕ, zero, suc, ◌+◌, ◌<◌, ◌==◌, List, [], ◌∷◌, length, get_or, All, Contains, Some, None, true}
use Rattle.std.proofs.Common.{refl, sym, ap, ap₂, subst, ◌∙◌, inl, inr, arith}
use Rattle.std.specs.List.{slice_get}
use Rattle.std.proofs.lemmas.Bool.{cases_Bool, eq-eqb}
use Rattle.std.proofs.lemmas.Option.{slice_get-get_or}
use Rattle.std.proofs.lemmas.List.Elements.{Contains-append_left, Contains-append_right, Contains-get_or, All-contains}
use Rattle.s39_kdf.specs.declared.params.Params.{Params}
use Rattle.s39_kdf.proofs.Rounds.{secrets_have_one_encryption}
use Rattle.s39_split.proofs.SplitLaws.{splits_take_the_bytes_needed, have_one_split}
use Rattle.s39_split.proofs.Choices.{length-shares}
use Rattle.s39_split.specs.Sharing.{IsSplit}
use Rattle.s39_words.specs.declared.share.ShareFields.{ShareFields}
use Rattle.s39_set.specs.Names.{Name, Names, names_in_group}
use Rattle.s39_set.specs.ShareSet.{name_of}
use Rattle.s39_lists.proofs.Finds.{some_same}
use Rattle.s39_lists.proofs.Pairs.{All-from_map}
use Rattle.s39_lists.proofs.Sublists.{Contains-filter}
use Rattle.s39_backup.specs.declared.plan.Members.{Members}
use Rattle.s39_backup.specs.Plan.{IsNameOfPlan}
use Rattle.s39_backup.specs.Created.{Asked, AreSplitAmong, created_share, created_group, created_groups, IsCreatedFrom}
use Rattle.s39_backup.proofs.Creations.{backup_once}
use Rattle.s39_backup.proofs.Promise.{in_created_groups}
use Rattle.s39_backup.proofs.WholeBackups.{contains_member}
use Rattle.s39_backup.specs.TwoShort.{is_held, held_groups}
use Rattle.s39_backup.specs.Correspondence.{CorrespondInGroup, CorrespondInEach, Correspond}
use Rattle.s39_backup.specs.InCommon.{for_secret, HaveTheShare}
use Rattle.s39_backup.proofs.Chosen.{kept_stay}
use Rattle.s39_backup.proofs.HeldGroups.{has_members, held-among}

-- the share of each held group, from this one on, is the same
abbrev pub HeldAreSame : Names → ℕ → List Members → List (List ℕ) → List (List ℕ) → Type 0
HeldAreSame names group groups shares others = (i : ℕ) (d : Members) → i < length groups
    → is_held names (group + i, get_or groups i d) ≡ true
    → slice_get shares i ≡ slice_get others i

-- the same of the groups after the first
pub held-later : (names : Names) (group : ℕ) (members : Members) (groups : List Members) (share other : List ℕ) (shares others : List (List ℕ))
    → HeldAreSame names group (members ∷ groups) (share ∷ shares) (other ∷ others) → HeldAreSame names (group + 1) groups shares others
held-later names group members groups share other shares others held i d within is =
    let place : (group + 1) + i ≡ group + suc i = omega arith in
    held (suc i) d (omega arith) (subst (λ (g : ℕ). is_held names (g, get_or groups i d) ≡ true) place is)

-- and of the first
pub held-first : (names : Names) (group : ℕ) (members : Members) (groups : List Members) (share other : List ℕ) (shares others : List (List ℕ))
    → HeldAreSame names group (members ∷ groups) (share ∷ shares) (other ∷ others) → is_held names (group, members) ≡ true → share ≡ other
held-first names group members groups share other shares others held is =
    let place : group ≡ group + 0 = omega arith in
    some_same share other (held 0 members (omega arith) (subst (λ (g : ℕ). is_held names (g, members) ≡ true) place is))

-- the held groups have the same shares
pub held_same : (names : Names) (groups : List Members) (shares others : List (List ℕ))
    → All (λ index. slice_get shares index ≡ slice_get others index) (held_groups names groups) → HeldAreSame names 0 groups shares others
held_same names groups shares others same i d within is =
    let here : 0 + i ≡ i = omega arith in
    let at = All-contains (λ j. slice_get shares j ≡ slice_get others j) (held_groups names groups) (0 + i) same (held-among names groups i d within is) in
    ap (slice_get shares) (sym here) ∙ at ∙ ap (slice_get others) here

-- the shares with these names are the same in each group from this one on
abbrev pub AreSameAmong : Names → ℕ → List (List (List ℕ)) → List (List (List ℕ)) → Type 0
AreSameAmong names group [] [] = Unit {0}
AreSameAmong names group (values ∷ more) (others ∷ rest) =
    All (λ name. slice_get values name.1 ≡ slice_get others name.1) (names_in_group group names)
    × AreSameAmong names (group + 1) more rest
AreSameAmong names group _ _ = ⊥

-- the splits of the groups, which have these shares in common
record HaveValues (names : Names) (group : ℕ) (groups : List Members) (shares others pieces fitted : List (List ℕ)) : Type 0 where
  pub values : List (List (List ℕ))
  pub other_values : List (List (List ℕ))
  pub split : AreSplitAmong groups shares pieces values
  pub refitted : AreSplitAmong groups others fitted other_values
  pub same : AreSameAmong names group values other_values

-- a group has them in common: if it's held, as there is one split of its share by its random bytes
same_in_group : (names : Names) (group : ℕ) (members : Members) (share other random fitted : List ℕ)
    (c : CorrespondInGroup names group members share other random fitted) → (is_held names (group, members) ≡ true → share ≡ other)
    → All (λ name. slice_get c.values name.1 ≡ slice_get c.others name.1) (names_in_group group names)
same_in_group names group members share other random fitted c same = elim (cases_Bool (is_held names (group, members))) [
  | inl held ↦
      let once : c.values ≡ c.others =
      have_one_split members.threshold members.count share random c.values c.others c.split
      (subst (λ s. IsSplit members.threshold members.count s random c.others) (sym (same held))
      (subst (λ xs. IsSplit members.threshold members.count other xs c.others) (c.held held) c.refitted)) in
      λ k d within. ap (λ xs. slice_get xs (get_or (names_in_group group names) k d).1) once
  | inr free ↦
      All-from_map (λ i. slice_get c.values i ≡ slice_get c.others i) (λ name. name.1) (names_in_group group names) (kept_stay (c.stay free))
]

have_values : (names : Names) (group : ℕ) (groups : List Members) (shares others pieces fitted : List (List ℕ))
    → CorrespondInEach names group groups shares others pieces fitted → HeldAreSame names group groups shares others
    → HaveValues names group groups shares others pieces fitted
have_values names group [] [] [] [] [] each held = record { values = []; other_values = []; split = tt; refitted = tt; same = tt }
have_values names group (m ∷ gs) (s ∷ ss) (o ∷ os) (p ∷ ps) (f ∷ fs) each held =
    let rest = have_values names (group + 1) gs ss os ps fs each.1 (held-later names group m gs s o ss os held) in
    record {
      values = each.0.values ∷ rest.values;
      other_values = each.0.others ∷ rest.other_values;
      split = (each.0.split, rest.split);
      refitted = (each.0.refitted, rest.refitted);
      same = (same_in_group names group m s o p f each.0 (held-first names group m gs s o ss os held), rest.same);
    }
have_values names group groups shares others pieces fitted each held = absurd each

module _ (params : Params) (group_threshold group_count : ℕ) where
  -- two backups have the share with a name in common
  pub have_share : (names : Names) (groups : List Members) (shares others pieces fitted : List (List ℕ))
      (values other_values : List (List (List ℕ))) (start place : ℕ) (name : Name) (members : Members)
      → AreSplitAmong groups shares pieces values → AreSplitAmong groups others fitted other_values → AreSameAmong names start values other_values
      → Contains names name → name.0 ≡ start + place → slice_get groups place ≡ Some members → name.1 < members.count
      → HaveTheShare (created_groups params group_threshold group_count start groups values)
      (created_groups params group_threshold group_count start groups other_values) name
  have_share names (g ∷ gs) (s ∷ ss) (o ∷ os) (p ∷ ps) (f ∷ fs) (v ∷ vs) (w ∷ ws) start zero name members split refitted same among here at within =
      let group_is : name.0 ≡ start = omega arith in
      let number = split.0.number in
      let count : g.count ≡ members.count = ap (λ (m : Members). m.count) (some_same g members at) in
      let value = get_or v name.1 [] in
      let is : slice_get v name.1 ≡ Some value = slice_get-get_or v name.1 [] (omega arith) in
      let other : slice_get w name.1 ≡ Some value =
      sym (All-contains (λ n. slice_get v n.1 ≡ slice_get w n.1) (names_in_group start names) name same.0
      (Contains-filter (λ n. n.0 == start) names name among (eq-eqb name.0 start group_is))) ∙ is in
      let first : 0 + name.1 ≡ name.1 = omega arith in
      let share = created_share params group_threshold group_count start g (0 + name.1) value in
      record {
        share = share;
        name_is = ap₂ (λ (a b : ℕ). (a, b)) (sym group_is) first;
        in_shares = Contains-append_left (created_group params group_threshold group_count start g v)
            (created_groups params group_threshold group_count (start + 1) gs vs) share
            (contains_member params group_threshold group_count start g 0 v name.1 value is);
        in_others = Contains-append_left (created_group params group_threshold group_count start g w)
            (created_groups params group_threshold group_count (start + 1) gs ws) share
            (contains_member params group_threshold group_count start g 0 w name.1 value other);
      }
  have_share names (g ∷ gs) (s ∷ ss) (o ∷ os) (p ∷ ps) (f ∷ fs) (v ∷ vs) (w ∷ ws) start (suc k) name members split refitted same among here at within =
      let later = have_share names gs ss os ps fs vs ws (start + 1) k name members split.1 refitted.1 same.1 among (omega arith) at within in
      record {
        share = later.share;
        name_is = later.name_is;
        in_shares = Contains-append_right (created_group params group_threshold group_count start g v)
            (created_groups params group_threshold group_count (start + 1) gs vs) later.share later.in_shares;
        in_others = Contains-append_right (created_group params group_threshold group_count start g w)
            (created_groups params group_threshold group_count (start + 1) gs ws) later.share later.in_others;
      }
  have_share names (g ∷ gs) (s ∷ ss) others (p ∷ ps) fitted (v ∷ vs) other_values start place name members split refitted same among here at within =
      absurd refitted
  have_share names [] [] others [] fitted [] other_values start place name members split refitted same among here at within =
      absurd (let none : None ≡ Some members = at in cc)
  have_share names gs ss os ps fs vs ws start place name members split refitted same among here at within = absurd split

-- ---- backups

-- a backup has one share with a name
pub created_once : (asked : Asked) (random : List ℕ) (shares : List ShareFields) → IsCreatedFrom asked random shares
    → (share other : ShareFields) → Contains shares share → Contains shares other → name_of share ≡ name_of other → share ≡ other
created_once asked random shares created share other among also same =
    let gt = asked.group_threshold in
    let n = length asked.groups in
    let made = λ (s : ShareFields) (c : Contains shares s).
    in_created_groups created.params gt n asked.groups created.values 0 s (subst (λ xs. Contains xs s) created.shares_are c) in
    let a = made share among in
    let b = made other also in
    let name_a : name_of share ≡ (0 + a.place, a.member) = ap name_of a.share_is in
    let name_b : name_of other ≡ (0 + b.place, b.member) = ap name_of b.share_is in
    let names : (0 + a.place, a.member) ≡ (0 + b.place, b.member) = sym name_a ∙ same ∙ name_b in
    let place : a.place ≡ b.place = omega (arith, ap (λ (p : Name). p.0) names) in
    let member : a.member ≡ b.member = ap (λ (p : Name). p.1) names in
    let members : a.members ≡ b.members =
    some_same a.members b.members (sym a.group_is ∙ ap (slice_get asked.groups) place ∙ b.group_is) in
    let others : a.others ≡ b.others = some_same a.others b.others (sym a.values_are ∙ ap (slice_get created.values) place ∙ b.values_are) in
    let value : a.value ≡ b.value =
    some_same a.value b.value (sym a.value_is ∙ ap₂ (λ (xs : List (List ℕ)) (i : ℕ). slice_get xs i) others member ∙ b.value_is) in
    a.share_is
    ∙ ap (λ (p : ℕ). created_share created.params gt n (0 + p) a.members a.member a.value) place
    ∙ ap (λ (m : Members). created_share created.params gt n (0 + b.place) m a.member a.value) members
    ∙ ap (λ (i : ℕ). created_share created.params gt n (0 + b.place) b.members i a.value) member
    ∙ ap (created_share created.params gt n (0 + b.place) b.members b.member) value
    ∙ sym b.share_is

-- the backups from random bytes that correspond
pub record HaveBackups (names : Names) (asked : Asked) (other random fitted : List ℕ) : Type 0 where
  pub shares : List ShareFields
  pub others : List ShareFields
  pub created : IsCreatedFrom asked random shares
  pub also : IsCreatedFrom (for_secret other asked) fitted others
  pub same : All (HaveTheShare shares others) names

pub have_backups : (names : Names) (asked : Asked) (other random fitted : List ℕ) → All (IsNameOfPlan asked.groups) names
    → Correspond names asked other random fitted → HaveBackups names asked other random fitted
have_backups names asked other random fitted of_plan c =
    let gt = asked.group_threshold in
    let groups = asked.groups in
    let n = length groups in
    let have = have_values names 0 groups c.group_shares c.other_shares c.pieces c.fitted_pieces c.each
    (held_same names groups c.group_shares c.other_shares (kept_stay c.levels.stay)) in
    record {
      shares = created_groups c.params gt n 0 groups have.values;
      others = created_groups c.params gt n 0 groups have.other_values;
      created = record {
        high = c.high;
        low = c.low;
        group_piece = c.group_piece;
        pieces = c.pieces;
        params = c.params;
        encrypted = c.encrypted;
        group_shares = c.group_shares;
        values = have.values;
        consumed = c.consumed;
        params_are = c.params_are;
        encryption = c.encryption;
        groups_split = c.levels.split;
        members_split = have.split;
        shares_are = refl;
      };
      also = record {
        high = c.high;
        low = c.low;
        group_piece = c.fitted_piece;
        pieces = c.fitted_pieces;
        params = c.params;
        encrypted = c.other_encrypted;
        group_shares = c.other_shares;
        values = have.other_values;
        consumed = c.fitted_consumed;
        params_are = c.params_are;
        encryption = c.other_encryption;
        groups_split = c.levels.refitted;
        members_split = have.refitted;
        shares_are = refl;
      };
      same = λ k d within.
          let name = get_or names k d in
          let of = has_members groups name (of_plan k d within) in
          have_share c.params gt n names groups c.group_shares c.other_shares c.pieces c.fitted_pieces have.values have.other_values
          0 name.0 name of.members have.split have.refitted have.same (Contains-get_or names k d within) (omega arith) of.at of.below;
    }

-- the same for any backup from the one list
pub shares_kept : (names : Names) (asked : Asked) (other random fitted : List ℕ) → All (IsNameOfPlan asked.groups) names
    → Correspond names asked other random fitted → (shares : List ShareFields) → IsCreatedFrom asked random shares
    → (others : List ShareFields) × IsCreatedFrom (for_secret other asked) fitted others × All (HaveTheShare shares others) names
shares_kept names asked other random fitted of_plan c shares created =
    let have = have_backups names asked other random fitted of_plan c in
    let once : have.shares ≡ shares =
    backup_once splits_take_the_bytes_needed length-shares have_one_split secrets_have_one_encryption asked random have.shares shares have.created created in
    (have.others, have.also, subst (λ xs. All (HaveTheShare xs have.others) names) once have.same)

pub both_kept : (names : Names) (asked : Asked) (other random fitted : List ℕ) → All (IsNameOfPlan asked.groups) names
    → Correspond names asked other random fitted → (shares others : List ShareFields) → IsCreatedFrom asked random shares
    → IsCreatedFrom (for_secret other asked) fitted others → All (HaveTheShare shares others) names
both_kept names asked other random fitted of_plan c shares others created also =
    let (first, is, same) = shares_kept names asked other random fitted of_plan c shares created in
    let once : first ≡ others =
    backup_once splits_take_the_bytes_needed length-shares have_one_split secrets_have_one_encryption (for_secret other asked) fitted first others is also in
    subst (λ xs. All (HaveTheShare shares xs) names) once same
