-- The shares of a backup, as they are created one after the other.
use Rattle.std.proofs.Common.{◌≡◌, ℕ, suc, ◌+◌, ◌*◌, ◌<◌, ◌≤◌, List, [], ◌∷◌, ◌++◌, length, get_or, take, drop, map, sum_by, All, refl, sym, ap, subst, ◌∙◌}
use Rattle.std.proofs.Common.{arith}
use Rattle.std.specs.List.{concat, enumerate_from}
use Rattle.std.proofs.lemmas.List.{length-map, length-take-le, length-append, take_more, map_push, append_assoc, append-nil, nil_from_length}
use Rattle.std.proofs.lemmas.List.Sums.{sum_by-cons}
use Rattle.std.proofs.Math.Seq.{drop-cons, take-length, drop-length}
use Rattle.arrayvec.specs.ArrayVec.{ArrayVec}
use Rattle.s39_kdf.specs.declared.params.Params.{Params}
use Rattle.s39_split.specs.Shares.{bytes_of}
use Rattle.s39_split.specs.Sharing.{random_needed, IsSplit}
use Rattle.s39_lists.proofs.Pushes.{enumerate_from-push, concat-push}
use Rattle.s39_words.specs.declared.share.ShareFields.{ShareFields}
use Rattle.s39_set.specs.Names.{most_members}
use Rattle.s39_backup.specs.declared.plan.Members.{Members}
use Rattle.s39_backup.specs.Created.{AreSplitAmong, created_share, created_group, created_groups}
use Rattle.s39_backup.specs.Building.{AreCreatedGroups, AreCreatedBefore}

module _ (params : Params) (group_threshold group_count : ℕ) where
  -- the share of one member more
  pub created_group-more : (group : ℕ) (members : Members) (values : List (ArrayVec ℕ)) (i : ℕ) (d : ArrayVec ℕ) → i < length values
      → created_group params group_threshold group_count group members (bytes_of (take (i + 1) values))
      ≡ created_group params group_threshold group_count group members (bytes_of (take i values))
      ++ created_share params group_threshold group_count group members i (get_or values i d).items ∷ []
  created_group-more group members values i d within =
      let before = bytes_of (take i values) in
      let value = (get_or values i d).items in
      let more : bytes_of (take (i + 1) values) ≡ before ++ value ∷ [] =
      ap bytes_of (take_more values i d within) ∙ map_push (λ v. v.items) (take i values) (get_or values i d) in
      let count : 0 + length before ≡ i = omega (arith, length-map (take i values) (λ v. v.items), length-take-le i values) in
      ap (created_group params group_threshold group_count group members) more
      ∙ ap (map (λ s. created_share params group_threshold group_count group members s.0 s.1)) (enumerate_from-push 0 before value)
      ∙ map_push (λ s. created_share params group_threshold group_count group members s.0 s.1) (enumerate_from 0 before) (0 + length before, value)
      ∙ ap (λ (k : ℕ). created_group params group_threshold group_count group members before ++ created_share params group_threshold group_count group
      members k value ∷ []) count

  -- the shares of one group more
  pub created_groups-push : (group : ℕ) (groups : List Members) (values : List (List (List ℕ))) (members : Members) (more : List (List ℕ))
      → length values ≡ length groups
      → created_groups params group_threshold group_count group (groups ++ members ∷ []) (values ++ more ∷ [])
      ≡ created_groups params group_threshold group_count group groups values ++ created_group params group_threshold group_count
      (group + length groups) members more
  created_groups-push group [] [] members more same =
      let here : group ≡ group + 0 = omega arith in
      append-nil (created_group params group_threshold group_count group members more)
      ∙ ap (λ (g : ℕ). created_group params group_threshold group_count g members more) here
  created_groups-push group [] (v ∷ vs) members more same = absurd (omega arith)
  created_groups-push group (g ∷ gs) [] members more same = absurd (omega arith)
  created_groups-push group (g ∷ gs) (v ∷ vs) members more same =
      let first = created_group params group_threshold group_count group g v in
      let others = created_groups params group_threshold group_count (group + 1) gs vs in
      let place : (group + 1) + length gs ≡ group + length (g ∷ gs) = omega arith in
      ap (λ xs. first ++ xs) (created_groups-push (group + 1) gs vs members more (omega arith))
      ∙ ap (λ (p : ℕ). first ++ (others ++ created_group params group_threshold group_count p members more)) place
      ∙ sym (append_assoc first others (created_group params group_threshold group_count (group + length (g ∷ gs)) members more))

-- each group has its values
pub length-split_among : (groups : List Members) (shares pieces : List (List ℕ)) (values : List (List (List ℕ))) → AreSplitAmong groups shares pieces values
    → length values ≡ length groups
length-split_among [] [] [] [] all = refl
length-split_among (g ∷ gs) (s ∷ ss) (p ∷ ps) (v ∷ vs) all = let rest = length-split_among gs ss ps vs all.1 in omega arith
length-split_among gs ss ps vs all = absurd all

pub split_among-push : (groups : List Members) (shares pieces : List (List ℕ)) (values : List (List (List ℕ))) (members : Members) (share piece : List ℕ)
    (more : List (List ℕ))
    → AreSplitAmong groups shares pieces values → IsSplit members.threshold members.count share piece more
    → AreSplitAmong (groups ++ members ∷ []) (shares ++ share ∷ []) (pieces ++ piece ∷ []) (values ++ more ∷ [])
split_among-push [] [] [] [] members share piece more all one = (one, tt)
split_among-push (g ∷ gs) (s ∷ ss) (p ∷ ps) (v ∷ vs) members share piece more all one = (all.0, split_among-push gs ss ps vs members share piece more all.1 one)
split_among-push gs ss ps vs members share piece more all one = absurd all

-- two bytes
pub two_bytes : (xs : List ℕ) → length xs ≡ 2 → xs ≡ get_or xs 0 0 ∷ get_or xs 1 0 ∷ []
two_bytes [] e = absurd (omega arith)
two_bytes (x ∷ []) e = absurd (omega arith)
two_bytes (x ∷ y ∷ []) e = refl
two_bytes (x ∷ y ∷ z ∷ zs) e = absurd (omega arith)

module _ (params : Params) (group_threshold group_count : ℕ) (groups : List Members) (group_shares : List (List ℕ)) (random : List ℕ) where
  -- no group's shares
  pub created_before-none : AreCreatedBefore params group_threshold group_count groups group_shares random 0 random []
  created_before-none = record {
    pieces = [];
    values = [];
    consumed = refl;
    split = tt;
    shares_are = refl;
    room = omega arith;
    left = λ n lengths all. all;
  }

  module _ (group : ℕ) (rest : List ℕ) (shares : List ShareFields) (d : Members) (e : List ℕ)
      (before : AreCreatedBefore params group_threshold group_count groups group_shares random group rest shares) (within : group < length groups)
      (as_many : length group_shares ≡ length groups) where
    -- there are random bytes for the group
    pub enough_left : (n : ℕ) → All (λ share. length share ≡ n) group_shares → length random ≡ sum_by (λ members. random_needed members.threshold n) groups
        → length rest ≡ random_needed (get_or groups group d).threshold n + sum_by (λ members. random_needed members.threshold n) (drop (group + 1) groups)
    enough_left n lengths all =
        let next : suc group ≡ group + 1 = omega arith in
        before.left n lengths all
        ∙ ap (sum_by (λ members. random_needed members.threshold n)) (drop-cons groups group d within
        ∙ ap (λ (m : ℕ). get_or groups group d ∷ drop m groups) next)
        ∙ sum_by-cons (λ members. random_needed members.threshold n) (get_or groups group d) (drop (group + 1) groups)

    -- the shares of one group more
    pub created_before-more : (piece others : List ℕ) (values : List (List ℕ)) (new : List ShareFields) → rest ≡ piece ++ others
        → length piece ≡ random_needed (get_or groups group d).threshold (length (get_or group_shares group e))
        → IsSplit (get_or groups group d).threshold (get_or groups group d).count (get_or group_shares group e) piece values
        → new ≡ shares ++ created_group params group_threshold group_count group (get_or groups group d) values
        → length new ≤ most_members * (group + 1)
        → AreCreatedBefore params group_threshold group_count groups group_shares random (group + 1) others new
    created_before-more piece others values new parts long split is room =
        let members = get_or groups group d in
        let share = get_or group_shares group e in
        let has : group < length group_shares = omega arith in
        let some : length (take group groups) ≡ group = length-take-le group groups (omega arith) in
        let as_long : length before.values ≡ length (take group groups) =
        length-split_among (take group groups) (take group group_shares) before.pieces before.values before.split in
        let place : 0 + length (take group groups) ≡ group = omega arith in
        record {
          pieces = before.pieces ++ piece ∷ [];
          values = before.values ++ values ∷ [];
          consumed = before.consumed ∙ ap (λ xs. concat before.pieces ++ xs) parts ∙ sym (append_assoc (concat before.pieces) piece others)
              ∙ ap (λ xs. xs ++ others) (sym (concat-push before.pieces piece));
          split = rw (take_more groups group d within, take_more group_shares group e has)
              (split_among-push (take group groups) (take group group_shares) before.pieces before.values members share piece values before.split split);
          shares_are = is ∙ ap (λ xs. xs ++ created_group params group_threshold group_count group members values) before.shares_are
              ∙ ap (λ (g : ℕ). created_groups params group_threshold group_count 0
              (take group groups) before.values ++ created_group params group_threshold group_count g members values) (sym place)
              ∙ sym (created_groups-push params group_threshold group_count 0 (take group groups) before.values members values as_long)
              ∙ ap (λ gs. created_groups params group_threshold group_count 0 gs (before.values ++ values ∷ [])) (sym (take_more groups group d within));
          room = room;
          left = λ n lengths all.
              let same : length share ≡ n = lengths group e has in
              let here = enough_left n lengths all in
              let length_is : length piece ≡ random_needed members.threshold n = long ∙ ap (random_needed members.threshold) same in
              omega (arith, length-parts rest piece others parts);
        }
      where
        length-parts : (rest piece others : List ℕ) → rest ≡ piece ++ others → length rest ≡ length piece + length others
        length-parts rest piece others parts = ap length parts ∙ simp length-append

  -- the shares of all groups
  pub created_before-all : (group : ℕ) (rest : List ℕ) (shares : List ShareFields) (n : ℕ)
      → AreCreatedBefore params group_threshold group_count groups group_shares random group rest shares → group ≡ length groups
      → length group_shares ≡ length groups → All (λ share. length share ≡ n) group_shares
      → length random ≡ sum_by (λ members. random_needed members.threshold n) groups
      → AreCreatedGroups params group_threshold group_count groups group_shares random [] shares
  created_before-all group rest shares n before end as_many lengths all =
      let whole : take group groups ≡ groups = ap (λ (m : ℕ). take m groups) end ∙ take-length groups in
      let whole_shares : take group group_shares ≡ group_shares = ap (λ (m : ℕ). take m group_shares) (end ∙ sym as_many) ∙ take-length group_shares in
      let gone : drop group groups ≡ [] = ap (λ (m : ℕ). drop m groups) end ∙ drop-length groups in
      let none : length rest ≡ 0 = before.left n lengths all ∙ ap (sum_by (λ members. random_needed members.threshold n)) gone in
      record {
        pieces = before.pieces;
        values = before.values;
        consumed = before.consumed ∙ ap (λ xs. concat before.pieces ++ xs) (nil_from_length rest none) ∙ append-nil (concat before.pieces);
        split = subst (λ gs. AreSplitAmong gs group_shares before.pieces before.values) whole
            (subst (λ ss. AreSplitAmong (take group groups) ss before.pieces before.values) whole_shares before.split);
        shares_are = before.shares_are ∙ ap (λ gs. created_groups params group_threshold group_count 0 gs before.values) whole;
      }
