-- How long the written form of names is.
use Rattle.std.proofs.Common.{◌≡◌, ℕ, ◌+◌, ◌-◌, ◌≤◌, [], ◌∷◌, length, get_or, All, Contains, refl, arith}
use Rattle.std.specs.Fmt.{digits}
use Rattle.std.proofs.lemmas.List.{length-append}
use Rattle.s39_lists.proofs.Sublists.{IsSublist, none, keeps, leaves}
use Rattle.s39_set.specs.Names.{Names, AreNames, most_names}
use Rattle.s39_set.specs.Written.{name_text, quorum_text}
use Rattle.s39_set.proofs.Ascending.{names-sublist}
use Rattle.s39_input.proofs.Texts.AllNames.{all_names, names_below, below-ascending, among}
use Rattle.s39_input.specs.Lengths.{longest_names}

-- the bytes of the written forms of names, and one behind each
abbrev pub bytes_of : Names → ℕ
bytes_of [] = 0
bytes_of (name ∷ names) = length (name_text name) + 1 + bytes_of names

-- a plus sign stands behind each but the last
pub length-quorum_text : (names : Names) → length (quorum_text names) ≤ bytes_of names - 1
length-quorum_text [] = omega arith
length-quorum_text (name ∷ []) = omega arith
length-quorum_text (name ∷ next ∷ names) =
    let rest : length (quorum_text (next ∷ names)) ≤ length (name_text next) + 1 + bytes_of names - 1 = length-quorum_text (next ∷ names) in
    omega (arith, rest, length-append (name_text name) (43 ∷ quorum_text (next ∷ names)))

-- a part has no more
pub bytes_of-sublist : {ys xs : Names} → IsSublist ys xs → bytes_of ys ≤ bytes_of xs
bytes_of-sublist none = omega arith
bytes_of-sublist (keeps s) = let rest = bytes_of-sublist s in omega arith
bytes_of-sublist (leaves s) = let rest = bytes_of-sublist s in omega arith

bytes_of-all : bytes_of all_names ≡ longest_names + 1
unfolding digits
bytes_of-all = refl

pub length-all : length (quorum_text all_names) ≡ longest_names
unfolding digits
length-all = refl

short : (n most : ℕ) → bytes_of (names_below n) ≡ most + 1 → (names : Names) → AreNames names
    → All (Contains (names_below n)) names → length (quorum_text names) ≤ most
short n most are_most names are inside =
    omega (arith, are_most, length-quorum_text names, bytes_of-sublist (names-sublist (names_below n) names (below-ascending n) are.ascending inside))

pub names_short : (names : Names) → AreNames names → length (quorum_text names) ≤ longest_names
names_short names are =
    short most_names longest_names bytes_of-all names are
    (λ k d within. let group = are.groups k d within in let member = are.members k d within in among most_names (get_or names k d) member (omega arith))
