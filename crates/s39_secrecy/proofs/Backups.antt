-- Random bytes of a backup have a corresponding list.
use Rattle.std.proofs.Common.{◌≡◌, ℕ, suc, ◌+◌, ◌-◌, ◌==◌, ◌%◌, ◌^◌, ◌<◌, ◌≤◌, List, [], ◌∷◌, ◌++◌, length, get_or, take, drop, map, sum_by, All, true, false}
use Rattle.std.proofs.Common.{refl, sym, ap, ap₂, subst, ◌∙◌, inl, inr, arith, length-append, length-drop}
use Rattle.std.specs.List.{concat}
use Rattle.std.proofs.lemmas.Bool.{cases_Bool}
use Rattle.std.proofs.lemmas.List.{length-map, length-take-le, take-append-drop, nil_from_length}
use Rattle.std.proofs.lemmas.List.Elements.{All-append, All-cons, All-drop, All-filter, All-head, All-map, All-nil, All-tail, All-take}
use Rattle.std.proofs.lemmas.List.Sums.{sum_by-cons}
use Rattle.s39_kdf.specs.declared.params.Params.{Params}
use Rattle.s39_kdf.specs.Bytes.{AreBytes}
use Rattle.s39_kdf.specs.Limits.{id_bits}
use Rattle.s39_kdf.proofs.Rounds.{secrets_have_one_encryption, encryption_keeps_length_and_bytes}
use Rattle.s39_split.specs.Sharing.{digest_length, random_needed as level_random_needed, IsSplit}
use Rattle.s39_split.proofs.SplitLaws.{splits_take_the_bytes_needed, shares_are_bytes, have_a_split}
use Rattle.s39_split.proofs.Choices.{length-shares}
use Rattle.s39_set.specs.Names.{Names, names_in_group, IsAscending}
use Rattle.s39_set.proofs.MembersOf.{names_in_group-group}
use Rattle.s39_backup.specs.declared.plan.Members.{Members}
use Rattle.s39_backup.specs.Plan.{IsGroup}
use Rattle.s39_backup.specs.Plan.{IsNameOfPlan}
use Rattle.s39_backup.specs.Created.{Asked, identifier_of}
use Rattle.s39_backup.proofs.OneRecovery.{of_fields}
use Rattle.s39_backup.specs.TwoShort.{is_held, held_groups}
use Rattle.s39_backup.specs.Correspondence.{CorrespondInGroup, CorrespondInEach, Correspond}
use Rattle.s39_secrecy.specs.Secrecy.{AreRandomBytes, AreTwoShort}
use Rattle.s39_backup.proofs.Chosen.{kept_stay}
use Rattle.s39_backup.proofs.KeptShares.{HeldAreSame, held-first, held-later, held_same}
use Rattle.s39_backup.proofs.HeldGroups.{members-ascending, held-ascending, held-below, member-below, not_less}
use Rattle.s39_backup.specs.Refitting.{AreKept}
use Rattle.s39_backup.specs.InCommon.{for_secret}
use Rattle.s39_secrecy.proofs.Levels.{have_level}

-- each group from this one on has the members of its names
abbrev pub AreNamesOfGroups : Names → ℕ → List Members → Type 0
AreNamesOfGroups names group groups = (i : ℕ) (d : Members) → i < length groups
    → All (λ name. name.1 < (get_or groups i d).count) (names_in_group (group + i) names)

-- random bytes that correspond to these in a group
record HaveGroup (names : Names) (group : ℕ) (members : Members) (share other random : List ℕ) : Type 0 where
  pub fitted : List ℕ
  pub correspond : CorrespondInGroup names group members share other random fitted
  pub bytes : AreBytes fitted

-- and in each group from one on
record HaveEach (names : Names) (group : ℕ) (groups : List Members) (shares others : List (List ℕ)) (random : List ℕ) (n : ℕ) : Type 0 where
  pub pieces : List (List ℕ)
  pub fitted : List (List ℕ)
  pub consumed : random ≡ concat pieces
  pub each : CorrespondInEach names group groups shares others pieces fitted
  pub bytes : AreBytes (concat fitted)
  pub number : length (concat fitted) ≡ sum_by (λ members. level_random_needed members.threshold n) groups

module _ (names : Names) (ascending : IsAscending names) (n : ℕ) (long : digest_length ≤ n) where
  have_group : (group : ℕ) (members : Members) (share other random : List ℕ) → IsGroup members → length share ≡ n → length other ≡ n
      → AreBytes share → AreBytes other → AreBytes random → length random ≡ level_random_needed members.threshold n
      → All (λ name. name.1 < members.count) (names_in_group group names) → (is_held names (group, members) ≡ true → share ≡ other)
      → HaveGroup names group members share other random
  have_group group members share other random is share_long other_long of_share of_other of_random needed below held =
      let named = names_in_group group names in
      let kept = map (λ name. name.1) named in
      let here : length random ≡ level_random_needed members.threshold (length share) = needed ∙ ap (level_random_needed members.threshold) (sym share_long) in
      elim (cases_Bool (is_held names (group, members))) [
        | inl yes_held ↦
            let (values, split) = have_a_split members.threshold members.count share random is.positive is.enough.enough is.enough.few
            (omega (arith, share_long)) of_share of_random here in
            record {
              fitted = random;
              correspond = record {
                values = values;
                others = values;
                split = split;
                refitted = subst (λ s. IsSplit members.threshold members.count s random values) (held yes_held) split;
                held = λ _. refl;
                stay = λ free. absurd (let both : true ≡ false = sym yes_held ∙ free in cc);
              };
              bytes = of_random;
            }
        | inr free ↦
            let are_kept : AreKept members.threshold members.count kept = record {
              ascending = members-ascending names group ascending;
              below = All-map (λ i. i < members.count) (λ name. name.1) named below;
              few = let few = not_less (members.threshold - 2) (length named) free in omega (arith, length-map named (λ name. name.1));
            } in
            let level = have_level members.threshold members.count share other kept random is.positive is.enough.enough is.enough.few
            (omega (arith, share_long)) (other_long ∙ sym share_long) of_share of_other of_random here are_kept in
            record {
              fitted = level.fitted;
              correspond = record {
                values = level.shares;
                others = level.others;
                split = level.levels.split;
                refitted = level.levels.refitted;
                held = λ yes_held. absurd (let both : true ≡ false = sym yes_held ∙ free in cc);
                stay = λ _. level.levels.stay;
              };
              bytes = level.bytes;
            }
      ]

  have_each : (group : ℕ) (groups : List Members) (shares others : List (List ℕ)) (random : List ℕ) → All IsGroup groups
      → length shares ≡ length groups → length others ≡ length groups
      → All (λ share. length share ≡ n) shares → All (λ share. length share ≡ n) others → All AreBytes shares → All AreBytes others
      → AreBytes random → length random ≡ sum_by (λ members. level_random_needed members.threshold n) groups
      → AreNamesOfGroups names group groups → HeldAreSame names group groups shares others
      → HaveEach names group groups shares others random n
  have_each group [] [] [] random is as_many also lengths other_lengths bytes other_bytes of_random needed below held = record {
    pieces = [];
    fitted = [];
    consumed = nil_from_length random needed;
    each = tt;
    bytes = All-nil (λ byte. byte < 256);
    number = refl;
  }
  have_each group [] (s ∷ ss) others random is as_many also lengths other_lengths bytes other_bytes of_random needed below held = absurd (omega arith)
  have_each group [] [] (o ∷ os) random is as_many also lengths other_lengths bytes other_bytes of_random needed below held = absurd (omega arith)
  have_each group (m ∷ gs) [] others random is as_many also lengths other_lengths bytes other_bytes of_random needed below held = absurd (omega arith)
  have_each group (m ∷ gs) (s ∷ ss) [] random is as_many also lengths other_lengths bytes other_bytes of_random needed below held = absurd (omega arith)
  have_each group (m ∷ gs) (s ∷ ss) (o ∷ os) random is as_many also lengths other_lengths bytes other_bytes of_random needed below held =
      let k = level_random_needed m.threshold n in
      let others_needed = sum_by (λ members. level_random_needed members.threshold n) gs in
      let count : length random ≡ k + others_needed = needed ∙ sum_by-cons (λ members. level_random_needed members.threshold n) m gs in
      let piece : length (take k random) ≡ k = length-take-le k random (omega arith) in
      let left : length (drop k random) ≡ others_needed = length-drop k random ∙ omega arith in
      let other_long : length o ≡ n = All-head (λ share. length share ≡ n) o os other_lengths in
      let start : group + 0 ≡ group = omega arith in
      let first = have_group group m s o (take k random) (All-head IsGroup m gs is) (All-head (λ share. length share ≡ n) s ss lengths) other_long
      (All-head AreBytes s ss bytes) (All-head AreBytes o os other_bytes) (All-take (λ byte. byte < 256) k random of_random) piece
      (subst (λ (g : ℕ). All (λ name. name.1 < m.count) (names_in_group g names)) start (below 0 m (omega arith)))
      (held-first names group m gs s o ss os held) in
      let later : AreNamesOfGroups names (group + 1) gs = λ i d within.
      let place : group + suc i ≡ (group + 1) + i = omega arith in
      subst (λ (g : ℕ). All (λ name. name.1 < (get_or gs i d).count) (names_in_group g names)) place (below (suc i) d (omega arith)) in
      let rest = have_each (group + 1) gs ss os (drop k random) (All-tail IsGroup m gs is) (omega arith) (omega arith)
      (All-tail (λ share. length share ≡ n) s ss lengths) (All-tail (λ share. length share ≡ n) o os other_lengths) (All-tail AreBytes s ss bytes)
      (All-tail AreBytes o os other_bytes) (All-drop (λ byte. byte < 256) k random of_random) left later (held-later names group m gs s o ss os held) in
      let fitted_long : length first.fitted ≡ k =
      splits_take_the_bytes_needed m.threshold m.count o first.fitted first.correspond.others first.correspond.refitted
      ∙ ap (level_random_needed m.threshold) other_long in
      record {
        pieces = take k random ∷ rest.pieces;
        fitted = first.fitted ∷ rest.fitted;
        consumed = sym (take-append-drop k random) ∙ ap (λ xs. take k random ++ xs) rest.consumed;
        each = (first.correspond, rest.each);
        bytes = All-append (λ byte. byte < 256) first.fitted (concat rest.fitted) first.bytes rest.bytes;
        number = length-append first.fitted (concat rest.fitted) ∙ ap₂ (λ (a b : ℕ). a + b) fitted_long rest.number
            ∙ sym (sum_by-cons (λ members. level_random_needed members.threshold n) m gs);
      }

-- ---- a backup

-- random bytes that correspond to these
pub record HaveCorrespondent (names : Names) (asked : Asked) (other random : List ℕ) : Type 0 where
  pub fitted : List ℕ
  pub correspond : Correspond names asked other random fitted
  pub are : AreRandomBytes (for_secret other asked) fitted

module _ (asked : Asked) (other : List ℕ) (names : Names) (setting : AreTwoShort asked other names) where
  abbrev groups : List Members
  groups = asked.groups

  abbrev threshold : ℕ
  threshold = asked.group_threshold

  of_groups : AreNamesOfGroups names 0 groups
  of_groups i d within k e inside =
      let here : 0 + i ≡ i = omega arith in
      member-below groups (get_or (names_in_group (0 + i) names) k e) i d
      (All-filter (λ name. name.0 == 0 + i) (IsNameOfPlan groups) names setting.two_short.of_plan k e inside)
      (names_in_group-group (0 + i) names k e inside ∙ here) within

  pub have_correspondent : (random : List ℕ) → AreRandomBytes asked random → HaveCorrespondent names asked other random
  have_correspondent [] are = absurd (let number = are.number in omega arith)
  have_correspondent (high ∷ []) are = absurd (let number = are.number in omega arith)
  have_correspondent (high ∷ low ∷ levels) are =
      let n = length asked.secret in
      let plan = setting.can.is_plan in
      let is_length = setting.can.is_length in
      let at_least = is_length.1 in
      let number = are.number in
      let k = level_random_needed threshold n in
      let others_needed = sum_by (λ members. level_random_needed members.threshold n) groups in
      let small : identifier_of high low < 2 ^ id_bits = omega arith in
      let params : Params = of_fields (identifier_of high low) asked.options.extendable asked.options.exponent small asked.options.exponent_in_range in
      let (encrypted, encryption, only) = secrets_have_one_encryption asked.passphrase params asked.secret is_length.0 in
      let even : length other % 2 ≡ 0 = ap (λ (l : ℕ). l % 2) setting.one_length ∙ is_length.0 in
      let (other_encrypted, other_encryption, also) = secrets_have_one_encryption asked.passphrase params other even in
      let kept = encryption_keeps_length_and_bytes asked.passphrase params asked.secret encrypted encryption in
      let other_kept = encryption_keeps_length_and_bytes asked.passphrase params other other_encrypted other_encryption in
      let long : length encrypted ≡ n = kept.0 in
      let other_long : length other_encrypted ≡ n = other_kept.0 ∙ setting.one_length in
      let bytes = kept.1 setting.can.bytes in
      let other_bytes = other_kept.1 setting.other_bytes in
      let high_byte : high < 256 = All-head (λ byte. byte < 256) high (low ∷ levels) are.bytes in
      let tail_bytes = All-tail (λ byte. byte < 256) high (low ∷ levels) are.bytes in
      let low_byte : low < 256 = All-head (λ byte. byte < 256) low levels tail_bytes in
      let levels_bytes : AreBytes levels = All-tail (λ byte. byte < 256) low levels tail_bytes in
      let count : length levels ≡ k + others_needed = omega arith in
      let piece : length (take k levels) ≡ k = length-take-le k levels (omega arith) in
      let piece_bytes : AreBytes (take k levels) = All-take (λ byte. byte < 256) k levels levels_bytes in
      let left : length (drop k levels) ≡ others_needed = length-drop k levels ∙ omega arith in
      let held = held_groups names groups in
      let are_kept : AreKept threshold (length groups) held =
      record { ascending = held-ascending names groups; below = held-below names groups; few = setting.two_short.few } in
      let level = have_level threshold (length groups) encrypted other_encrypted held (take k levels) plan.positive plan.enough.enough plan.enough.few
      (omega (arith, long)) (other_long ∙ sym long) bytes other_bytes piece_bytes (piece ∙ ap (level_random_needed threshold) (sym long)) are_kept in
      let split = level.levels.split in
      let refitted = level.levels.refitted in
      let each = have_each names setting.ascending n (omega arith) 0 groups level.shares level.others (drop k levels) plan.each split.number refitted.number
      (λ i d within. length-shares threshold (length groups) encrypted (take k levels) level.shares split i d within ∙ long)
      (λ i d within. length-shares threshold (length groups) other_encrypted level.fitted level.others refitted i d within ∙ other_long)
      (shares_are_bytes threshold (length groups) encrypted (take k levels) level.shares split bytes piece_bytes)
      (shares_are_bytes threshold (length groups) other_encrypted level.fitted level.others refitted other_bytes level.bytes)
      (All-drop (λ byte. byte < 256) k levels levels_bytes) left of_groups
      (held_same names groups level.shares level.others (kept_stay level.levels.stay)) in
      let fitted_long : length level.fitted ≡ k =
      splits_take_the_bytes_needed threshold (length groups) other_encrypted level.fitted level.others refitted
      ∙ ap (level_random_needed threshold) other_long in
      let same_length : length other ≡ n = setting.one_length in
      record {
        fitted = high ∷ low ∷ (level.fitted ++ concat each.fitted);
        correspond = record {
          high = high;
          low = low;
          group_piece = take k levels;
          fitted_piece = level.fitted;
          pieces = each.pieces;
          fitted_pieces = each.fitted;
          params = params;
          encrypted = encrypted;
          other_encrypted = other_encrypted;
          group_shares = level.shares;
          other_shares = level.others;
          consumed = ap (λ xs. high ∷ low ∷ xs) (sym (take-append-drop k levels) ∙ ap (λ xs. take k levels ++ xs) each.consumed);
          fitted_consumed = refl;
          params_are = record { id = refl; extendable = refl; exponent = refl };
          encryption = encryption;
          other_encryption = other_encryption;
          levels = level.levels;
          each = each.each;
        };
        are = record {
          bytes = All-cons (λ byte. byte < 256) high (low ∷ (level.fitted ++ concat each.fitted)) high_byte
              (All-cons (λ byte. byte < 256) low (level.fitted ++ concat each.fitted) low_byte
              (All-append (λ byte. byte < 256) level.fitted (concat each.fitted) level.bytes each.bytes));
          number =
              let joined : length (level.fitted ++ concat each.fitted) ≡ k + others_needed =
              length-append level.fitted (concat each.fitted) ∙ ap₂ (λ (a b : ℕ). a + b) fitted_long each.number in
              let same : length (level.fitted ++ concat each.fitted)
              ≡ level_random_needed threshold (length other) + sum_by (λ members. level_random_needed members.threshold (length other)) groups =
              joined ∙ ap (λ (l : ℕ). level_random_needed threshold l + sum_by (λ members. level_random_needed members.threshold l) groups) (sym same_length) in
              omega (arith, same);
        };
      }
