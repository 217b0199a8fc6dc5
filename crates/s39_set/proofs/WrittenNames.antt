-- The written form of names, cut at its plus signs.
use Rattle.std.proofs.Common.{◌≡◌, ℕ, ◌<◌, ◌==◌, Bool, false, List, ◌∷◌, length, get_or, map, take, All, Less, refl, sym, ap, ◌∙◌, subst, arith}
use Rattle.std.specs.List.{slice_split}
use Rattle.std.specs.Fmt.{decimal}
use Rattle.std.proofs.lemmas.List.{take-map}
use Rattle.std.proofs.lemmas.List.Elements.{All-cons, All-append, All-take}
use Rattle.s39_lists.proofs.Splits.{IsWithout, split-joined, joined-from_parts, same_texts, joined_once, part_is}
use Rattle.s39_set.specs.Names.{Name, Names, name_cmp, AreNames, most_groups, most_members}
use Rattle.s39_set.specs.Written.{name_text, IsNameText, IsWrittenForm}
use Rattle.s39_set.proofs.Fronts.{front_before}
use Rattle.s39_set.proofs.NameText.{same_name}
use Rattle.s39_set.proofs.NumberText.{decimal-without}

-- the test for a plus sign
abbrev pub is_plus : ℕ → Bool
is_plus byte = byte == 43

-- a name of a group and a member that a backup may have
abbrev InRange : Name → Type 0
InRange name = (name.0 < most_groups) × (name.1 < most_members)

in_range : (names : Names) → AreNames names → All InRange names
in_range names are k d below = (are.groups k d below, are.members k d below)

-- its written form has no plus sign
without : (name : Name) → InRange name → IsWithout 43 (name_text name)
without name low =
    let group = low.0 in
    let member = low.1 in
    All-append (λ b. (b == 43) ≡ false) (decimal name.0) (46 ∷ decimal name.1)
    (decimal-without name.0 43 (omega arith) (λ digit from below e. omega arith))
    (All-cons (λ b. (b == 43) ≡ false) 46 (decimal name.1) refl (decimal-without name.1 43 (omega arith) (λ digit from below e. omega arith)))

-- and is that of one name
once : (a b : Name) → InRange a → InRange b → name_text a ≡ name_text b → a ≡ b
once a b low low' e =
    same_name (name_text a) a b (record { group = low.0; member = low.1; text_is = refl }) (record { group = low'.0; member = low'.1; text_is = e })

-- what is cut in the written forms of names is the written form of them all
pub written_from_parts : (text : List ℕ) (names : Names) → AreNames names → map name_text names ≡ slice_split is_plus text → IsWrittenForm text names
written_from_parts text names are parts =
    let joined = joined-from_parts 43 name_text text names parts in
    record { some = joined.0; are_names = are; text_is = joined.1 }

-- a text is the written form of one list of names
pub same_written : (text : List ℕ) (names others : Names) → IsWrittenForm text names → IsWrittenForm text others → names ≡ others
same_written text names others is also =
    joined_once 43 name_text InRange without once names others is.some also.some (in_range names is.are_names) (in_range others also.are_names)
    (sym is.text_is ∙ also.text_is)

-- of a written form, of which the names before a part were read, the part is a name's, and those before come before it
pub record IsNext (part : List ℕ) (before : Names) (name : Name) : Type 0 where
  pub text : IsNameText part name
  pub later : All (λ earlier. name_cmp earlier name ≡ Less) before

pub next_name : (text part : List ℕ) (before names : Names) (k : ℕ) → IsWrittenForm text names → AreNames before
    → map name_text before ≡ take k (slice_split is_plus text) → k < length (slice_split is_plus text) → part ≡ get_or (slice_split is_plus text) k part
    → IsNext part before (get_or names k (0, 0))
next_name text part before names k is are so_far inside here =
    let name = get_or names k (0, 0) in
    let all = in_range names is.are_names in
    let (below, part_text) = part_is 43 name_text InRange without text part names k (0, 0) is.some all is.text_is inside here in
    let parts = ap (slice_split is_plus) is.text_is ∙ split-joined 43 name_text InRange without names is.some all in
    let same : before ≡ take k names =
    same_texts 43 name_text InRange without once before (take k names) (in_range before are) (All-take InRange k names all)
    (so_far ∙ ap (take k) parts ∙ take-map name_text k names) in
    record {
      text = record { group = (all k (0, 0) below).0; member = (all k (0, 0) below).1; text_is = part_text };
      later = subst (All (λ earlier. name_cmp earlier name ≡ Less)) (sym same) (front_before names k is.are_names.ascending below);
    }
