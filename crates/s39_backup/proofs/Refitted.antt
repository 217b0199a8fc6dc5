-- Random bytes of the groups of two backups, which correspond.
use Rattle.std.proofs.Common.{◌≡◌, ℕ, ◌+◌, List, [], ◌∷◌, ◌++◌, length, refl, sym, ap, arith}
use Rattle.s39_set.specs.Names.{Names}
use Rattle.s39_backup.specs.declared.plan.Members.{Members}
use Rattle.s39_backup.specs.Correspondence.{CorrespondInGroup}
use Rattle.s39_backup.specs.Refitting.{CorrespondInGroups}

-- no groups
refitted-none : (names : Names) (group : ℕ) → CorrespondInGroups names group [] [] [] [] []
refitted-none names group = record {
  pieces = [];
  fitted_pieces = [];
  consumed = refl;
  fitted_consumed = refl;
  each = tt;
}

pub refitted-empty : (names : Names) (group : ℕ) (groups : List Members) (shares others : List (List ℕ)) (random : List ℕ) → length groups ≡ 0
    → length shares ≡ 0 → length others ≡ 0 → length random ≡ 0 → CorrespondInGroups names group groups shares others random random
refitted-empty names group [] [] [] [] g s o r = refitted-none names group
refitted-empty names group (x ∷ xs) shares others random g s o r = absurd (omega arith)
refitted-empty names group [] (x ∷ xs) others random g s o r = absurd (omega arith)
refitted-empty names group [] [] (x ∷ xs) random g s o r = absurd (omega arith)
refitted-empty names group [] [] [] (x ∷ xs) g s o r = absurd (omega arith)

-- a group and those after it
refitted-cons : (names : Names) (group : ℕ) (members : Members) (groups : List Members) (share other : List ℕ)
    (shares others : List (List ℕ)) (piece fitted rest fitted_rest : List ℕ)
    → CorrespondInGroup names group members share other piece fitted
    → CorrespondInGroups names (group + 1) groups shares others rest fitted_rest
    → CorrespondInGroups names group (members ∷ groups) (share ∷ shares) (other ∷ others) (piece ++ rest) (fitted ++ fitted_rest)
refitted-cons names group members groups share other shares others piece fitted rest fitted_rest one more = record {
  pieces = piece ∷ more.pieces;
  fitted_pieces = fitted ∷ more.fitted_pieces;
  consumed = ap (λ xs. piece ++ xs) more.consumed;
  fitted_consumed = ap (λ xs. fitted ++ xs) more.fitted_consumed;
  each = (one, more.each);
}

-- a group and those after it are all groups from it on
pub refitted-whole : (names : Names) (group : ℕ) (groups : List Members) (shares others : List (List ℕ)) (random : List ℕ)
    (members : Members) (more : List Members) (share other : List ℕ) (more_shares more_others : List (List ℕ))
    (piece fitted rest fitted_rest : List ℕ) → members ∷ more ≡ groups → share ∷ more_shares ≡ shares → other ∷ more_others ≡ others
    → random ≡ piece ++ rest → CorrespondInGroup names group members share other piece fitted
    → CorrespondInGroups names (group + 1) more more_shares more_others rest fitted_rest
    → CorrespondInGroups names group groups shares others random (fitted ++ fitted_rest)
refitted-whole names group groups shares others random members more share other more_shares more_others piece fitted rest fitted_rest
    groups_are shares_are others_are random_is one later =
    rw (sym groups_are, sym shares_are, sym others_are, random_is)
    (refitted-cons names group members more share other more_shares more_others piece fitted rest fitted_rest one later)
