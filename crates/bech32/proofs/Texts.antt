-- What is written is read, and what is read is written so.
use Rattle.std.proofs.Common.{◌≡◌, ℕ, suc, ◌+◌, ◌-◌, ◌/◌, ◌^◌, ◌<◌, ◌≤◌, Bool, true, false, not, cond, ◌||◌, nat_eq, nat_le, nat_lt, List, [], ◌∷◌}
use Rattle.std.proofs.Common.{◌++◌, All, length, map, take, drop, get_or, refl, sym, ap, ap₂, ◌∙◌, subst, inl, inr, arith, append_assoc}
use Rattle.std.proofs.Common.{length-append, ◌⊎◌}
use Rattle.std.specs.Prelude.{Option, Some, None}
use Rattle.std.specs.Str.{bytes_eq, str_to_ascii_uppercase}
use Rattle.std.proofs.lemmas.Bool.{ltb-false, lt-ltb, le-ltb, lt-leb, eqb-true, eq-eqb, ne_eqb, cases_lt, cases_eq, or_cases}
use Rattle.std.proofs.lemmas.Slice.Eq.{bytes_eq-Decides}
use Rattle.std.proofs.lemmas.List.{length-map, length-drop, take-append-drop, take_at, drop_at, drop-take, get_or-map}
use Rattle.std.proofs.lemmas.List.Sums.{position_or_len_is}
use Rattle.std.proofs.lemmas.List.Elements.{All-append, All-cons, All-get_or, All-drop, All-take}
use Rattle.s39_lists.specs.Digits.{number_of}
use Rattle.bech32.specs.Groups.{IsGroup, group_count, groups}
use Rattle.bech32.specs.Segwit.{letter, group_of, polymod, expanded, checksum, final_register}
use Rattle.bech32.specs.Reading.{lower, letters_behind, groups_behind, first_bad_letter, version_of, program_groups, whole_bytes, left_over}
use Rattle.bech32.specs.Reading.{bytes_of, padding_of, program_refusal, groups_refusal, letters_refusal, has_one_case, has_prefix, refusal_of}
use Rattle.bech32.specs.Reading.{IsProgram, IsAddress, IsRead}
use Rattle.bech32.specs.declared.reading.AddressError.{AddressError}
use Rattle.bech32.specs.declared.reading.AddressError.TheVariants.{BadProgram}
use Rattle.bech32.proofs.Alphabet.{groups-letters, letters-groups}
use Rattle.bech32.proofs.Alphabet as A
use Rattle.s39_lists.proofs.Digits.{length-digits, digits-below}
use Rattle.bech32.proofs.ProgramGroups.{length-groups, groups-below, whole-groups, left-groups, bytes_back, padding_zero, groups_back}
use Rattle.bech32.proofs.Remainders.{valid, only}

-- ---- what no refusal says

not_some : (b : Bool) (e : AddressError) (rest : Option AddressError) → cond b (Some e) rest ≡ None → (b ≡ false) × (rest ≡ None)
not_some true e rest h = absurd (cc)
not_some false e rest h = (refl, h)

not_else : (b : Bool) (e : AddressError) (rest : Option AddressError) → cond b rest (Some e) ≡ None → (b ≡ true) × (rest ≡ None)
not_else true e rest h = (refl, h)
not_else false e rest h = absurd (cc)

unnot : (b : Bool) → not b ≡ false → b ≡ true
unnot true h = refl
unnot false h = absurd (cc)

-- a program's length, by its version
of_version : (version count : ℕ)
    → cond (nat_lt 0 version) None (cond (nat_eq count 20) None (cond (nat_eq count 32) None (Some BadProgram))) ≡ None
    → version ≡ 0 → (count ≡ 20) ⊎ (count ≡ 32)
of_version version count h z =
    let first : nat_lt 0 version ≡ false = le-ltb 0 version (omega arith) in
    elim (cases_eq count 20) [
      | inl e ↦ inl e
      | inr n ↦ elim (cases_eq count 32) [
        | inl e ↦ inr e
        | inr m ↦
            let second = ne_eqb count 20 n in
            let third = ne_eqb count 32 m in
            let bad : Some BadProgram ≡ None = rw (first, second, third) at h in
            absurd (cc)
      ]
    ]

with_version : (version count : ℕ) → (version ≡ 0 → (count ≡ 20) ⊎ (count ≡ 32))
    → cond (nat_lt 0 version) None (cond (nat_eq count 20) None (cond (nat_eq count 32) None (Some BadProgram))) ≡ None
with_version version count h = elim (cases_lt 0 version) [
  | inl some ↦ rw (lt-ltb 0 version some) refl
  | inr none ↦ elim (h (omega arith)) [
    | inl e ↦ rw (le-ltb 0 version none, eq-eqb count 20 e) refl
    | inr e ↦
        let n : count ≡ 20 → ⊥ = λ f. absurd (omega arith) in
        rw (le-ltb 0 version none, ne_eqb count 20 n, eq-eqb count 32 e) refl
  ]
]

-- groups that aren't refused are a program
pub program : (version : ℕ) (gs : List ℕ) → All IsGroup gs → program_refusal version gs ≡ None
    → IsProgram version (bytes_of gs) × ((left_over gs ≤ 4) × (padding_of gs ≡ 0))
unfolding program_refusal
program version gs h none =
    let one = not_some _ _ _ none in
    let two = not_some _ _ _ one.1 in
    let three = not_some _ _ _ two.1 in
    let four = not_some _ _ _ three.1 in
    let five = not_some _ _ _ four.1 in
    let count : length (bytes_of gs) ≡ whole_bytes gs = length-digits 8 (whole_bytes gs) (number_of 5 gs / 2 ^ left_over gs) in
    let least = ltb-false (whole_bytes gs) 2 four.0 in
    let most = ltb-false 40 (whole_bytes gs) five.0 in
    let zeros = ltb-false 0 (padding_of gs) three.0 in (
      record {
        version_most = ltb-false 16 version one.0;
        bytes = digits-below 8 (whole_bytes gs) (number_of 5 gs / 2 ^ left_over gs);
        least = omega arith;
        most = omega arith;
        first_version = λ z. subst (λ n. (n ≡ 20) ⊎ (n ≡ 32)) (sym count) (of_version version (whole_bytes gs) five.1 z);
      },
      (ltb-false 4 (left_over gs) two.0, omega arith),
    )

-- a program's groups aren't refused
pub program_taken : (version : ℕ) (p : List ℕ) → IsProgram version p → program_refusal version (groups p) ≡ None
unfolding program_refusal
program_taken version p is =
    let gs = groups p in
    let count = whole-groups p in
    let few : left_over gs ≤ 4 = rw (left-groups p) (omega arith) in
    let a = le-ltb 16 version is.version_most in
    let b = le-ltb 4 (left_over gs) few in
    let zero_padding = padding_zero p is.bytes in
    let c = le-ltb 0 (padding_of gs) (omega arith) in
    let d = le-ltb (whole_bytes gs) 2 (omega (arith, is.least)) in
    let e = le-ltb 40 (whole_bytes gs) (omega (arith, is.most)) in
    rw (a, b, c, d, e) (with_version version (whole_bytes gs) (λ z. subst (λ n. (n ≡ 20) ⊎ (n ≡ 32)) (sym count) (is.first_version z)))

-- ---- what is read is written so

text_read : (prefix text : List ℕ) → refusal_of prefix text ≡ None
    → (length prefix + 8 ≤ length text) × ((has_one_case text ≡ true) × ((has_prefix prefix text ≡ true)
    × (letters_refusal prefix (letters_behind prefix text) ≡ None)))
unfolding refusal_of
text_read prefix text none =
    let one = not_some _ _ _ none in
    let two = not_some _ _ _ one.1 in
    let three = not_some _ _ _ two.1 in
    let four = not_some _ _ _ three.1 in
    (ltb-false (length text) (length prefix + 8) two.0, (unnot (has_one_case text) three.0, (unnot (has_prefix prefix text) four.0, four.1)))

letters_read : (prefix letters : List ℕ) → letters_refusal prefix letters ≡ None
    → (length letters ≤ first_bad_letter letters) × (groups_refusal prefix (map group_of letters) ≡ None)
unfolding letters_refusal
letters_read prefix letters none =
    let one = not_some _ _ _ none in
    (ltb-false (first_bad_letter letters) (length letters) one.0, one.1)

groups_read : (prefix gs : List ℕ) → groups_refusal prefix gs ≡ None
    → (polymod (expanded prefix ++ gs) ≡ final_register (version_of gs)) × (program_refusal (version_of gs) (program_groups gs) ≡ None)
unfolding groups_refusal
groups_read prefix gs none =
    let one = not_else _ _ _ none in
    (eqb-true (polymod (expanded prefix ++ gs)) (final_register (version_of gs)) one.0, one.1)

most_read : (prefix text : List ℕ) → refusal_of prefix text ≡ None → length text ≤ 90
unfolding refusal_of
most_read prefix text none = ltb-false 90 (length text) (not_some _ _ _ none).0

-- what a text that isn't refused has
pub record Sound (prefix text : List ℕ) : Type 0 where
  pub most : length text ≤ 90
  pub least : length prefix + 8 ≤ length text
  pub letters : length (letters_behind prefix text) ≤ first_bad_letter (letters_behind prefix text)

pub sound : (prefix text : List ℕ) → refusal_of prefix text ≡ None → Sound prefix text
sound prefix text none =
    let all = text_read prefix text none in
    record { most = most_read prefix text none; least = all.0; letters = (letters_read prefix (letters_behind prefix text) all.1.1.1).0 }

-- the version, the groups of the program, and the checksum
parts : (gs : List ℕ) → 7 ≤ length gs → gs ≡ version_of gs ∷ (program_groups gs ++ drop (length gs - 6) gs)
parts [] h = absurd (omega arith)
parts (g ∷ rest) h =
    let m = length rest - 6 in
    let k : suc m ≡ suc (length rest) - 6 = omega arith in
    subst (λ j. g ∷ rest ≡ g ∷ (drop 1 (take j (g ∷ rest)) ++ drop j (g ∷ rest))) k (ap (λ xs. g ∷ xs) (sym (take-append-drop m rest)))

read_as : (prefix text : List ℕ) → refusal_of prefix text ≡ None
    → IsAddress prefix text (version_of (groups_behind prefix text)) (bytes_of (program_groups (groups_behind prefix text)))
read_as prefix text none =
    let all = text_read prefix text none in
    let L = letters_behind prefix text in
    let gs = groups_behind prefix text in
    let k = length prefix + 1 in
    let behind = letters_read prefix L all.1.1.1 in
    let found = groups_read prefix gs behind.1 in
    let v = version_of gs in
    let pg = program_groups gs in
    let cs = drop (length gs - 6) gs in
    let long : length L ≡ length text - k = length-drop k (lower text) ∙ ap (λ n. n - k) (length-map text _) in
    let count : length gs ≡ length L = length-map L group_of in
    let enough : 7 ≤ length gs = omega (arith, all.0) in
    let below : All IsGroup gs = A.groups-below L behind.0 in
    let split : gs ≡ v ∷ (pg ++ cs) = parts gs enough in
    let pg_below : All IsGroup pg = All-drop IsGroup 1 (take (length gs - 6) gs) (All-take IsGroup (length gs - 6) gs below) in
    let cs_below : All IsGroup cs = All-drop IsGroup (length gs - 6) gs below in
    let six : length cs ≡ 6 = omega (arith, length-drop (length gs - 6) gs) in
    let is = program v pg pg_below found.1 in
    let p = bytes_of pg in
    let back : groups p ≡ pg = groups_back pg pg_below is.1.0 is.1.1 in
    let sum : cs ≡ checksum (final_register v) prefix (v ∷ pg) =
    only (final_register v) prefix (v ∷ pg) cs cs_below six
    (ap polymod (append_assoc (expanded prefix) (v ∷ pg) cs) ∙ ap (λ xs. polymod (expanded prefix ++ xs)) (sym split) ∙ found.0) in
    let whole : gs ≡ v ∷ (groups p ++ checksum (final_register v) prefix (v ∷ groups p)) =
    split ∙ ap₂ (λ (xs ys : List ℕ). v ∷ (xs ++ ys)) (sym back) (sum ∙ ap (λ xs. checksum (final_register v) prefix (v ∷ xs)) (sym back)) in
    let front : take k (lower text) ≡ prefix ++ 49 ∷ [] = (bytes_eq-Decides (take k (lower text)) (prefix ++ 49 ∷ [])).0 all.1.1.0 in
    let letters : L ≡ map letter gs = sym (letters-groups L behind.0) in
    record {
      is_program = is.0;
      lower_is =
          sym (take-append-drop k (lower text)) ∙ ap₂ (λ (xs ys : List ℕ). xs ++ ys) front (letters ∙ ap (map letter) whole)
          ∙ append_assoc prefix (49 ∷ []) (map letter (v ∷ (groups p ++ checksum (final_register v) prefix (v ∷ groups p))));
      one_case = elim (or_cases (bytes_eq (lower text) text) (bytes_eq (str_to_ascii_uppercase text) text) all.1.0) [
        | inl e ↦ inl ((bytes_eq-Decides (lower text) text).0 e)
        | inr e ↦ inr ((bytes_eq-Decides (str_to_ascii_uppercase text) text).0 e)
      ];
    }

pub read : (prefix text program : List ℕ) (version : ℕ) → IsRead prefix text version program → IsAddress prefix text version program
read prefix text program version is =
    subst (λ v. IsAddress prefix text v program) is.version_is
    (subst (IsAddress prefix text (version_of (groups_behind prefix text))) is.program_is (read_as prefix text is.not_refused))

-- ---- what is written is read

or_true : (b : Bool) → (b || true) ≡ true
or_true true = refl
or_true false = refl

final-below : (v : ℕ) → final_register v < 2 ^ 30
final-below v = elim (nat_eq v 0) as (λ b. cond b 1 0x2bc830a3 < 2 ^ 30) [ true ↦ omega arith | false ↦ omega arith ]

pub written : (prefix text program : List ℕ) (version : ℕ) → length prefix ≤ 18 → IsAddress prefix text version program
    → IsRead prefix text version program
unfolding refusal_of letters_refusal groups_refusal
written prefix text p v short is =
    let k = length prefix + 1 in
    let final = final_register v in
    let cs = checksum final prefix (v ∷ groups p) in
    let vs = v ∷ (groups p ++ cs) in
    let six : length cs ≡ 6 = refl in
    let small : All IsGroup vs =
    All-cons IsGroup v (groups p ++ cs) (omega (arith, is.is_program.version_most)) (All-append IsGroup (groups p) cs (groups-below p) (digits-below 5 6 _)) in
    let count : length vs ≡ 7 + group_count (length p) = omega (arith, length-append (groups p) cs, length-groups p) in
    let long : length (prefix ++ 49 ∷ []) ≡ k = length-append prefix (49 ∷ []) in
    let whole : lower text ≡ (prefix ++ 49 ∷ []) ++ map letter vs = is.lower_is ∙ sym (append_assoc prefix (49 ∷ []) (map letter vs)) in
    let L = letters_behind prefix text in
    let gs = groups_behind prefix text in
    let letters : L ≡ map letter vs = ap (drop k) whole ∙ drop_at (prefix ++ 49 ∷ []) (map letter vs) k long in
    let found : gs ≡ vs = ap (map group_of) letters ∙ groups-letters vs small in
    let version_is : version_of gs ≡ v = ap version_of found in
    let place : length (v ∷ groups p) ≡ length vs - 6 = omega (arith, length-append (groups p) cs) in
    let program_is : program_groups gs ≡ groups p =
    ap program_groups found ∙ ap (drop 1) (take_at (v ∷ groups p) cs (length vs - 6) place) in
    let text_long : length text ≡ length prefix + (8 + group_count (length p)) =
    sym (length-map text _) ∙ ap length whole ∙ length-append (prefix ++ 49 ∷ []) (map letter vs)
    ∙ ap₂ (λ a b. a + b) long (length-map vs letter ∙ count) ∙ (omega arith) in
    let most = le-ltb 90 (length text) (omega (arith, is.is_program.most)) in
    let least = le-ltb (length text) (length prefix + 8) (omega arith) in
    let one_case : has_one_case text ≡ true = elim is.one_case [
      | inl e ↦ ap (λ b. b || bytes_eq (str_to_ascii_uppercase text) text) ((bytes_eq-Decides (lower text) text).1 e)
      | inr e ↦
          ap (λ b. bytes_eq (lower text) text || b) ((bytes_eq-Decides (str_to_ascii_uppercase text) text).1 e) ∙ or_true (bytes_eq (lower text) text)
    ] in
    let front : has_prefix prefix text ≡ true =
    (bytes_eq-Decides (take k (lower text)) (prefix ++ 49 ∷ [])).1 (ap (take k) whole ∙ take_at (prefix ++ 49 ∷ []) (map letter vs) k long) in
    let of_letter : (i : ℕ) → i < length L → group_of (get_or L i 0) < 32 =
    λ i l.
    let same : group_of (get_or L i 0) ≡ get_or vs i 0 = sym (get_or-map group_of L i 0 0 l) ∙ ap (λ xs. get_or xs i 0) found in
    omega (arith, All-get_or IsGroup vs i 0 (omega (arith, ap length found, length-map L group_of)) small) in
    let first : first_bad_letter L ≡ length L =
    position_or_len_is (λ c. nat_le 32 (group_of c)) L (length L) 0 (omega arith)
    (λ i l. lt-leb 32 (group_of (get_or L i 0)) (of_letter i l)) (λ l. absurd (omega arith)) in
    let no_bad = le-ltb (first_bad_letter L) (length L) (omega arith) in
    let sum : polymod (expanded prefix ++ gs) ≡ final_register (version_of gs) =
    ap (λ xs. polymod (expanded prefix ++ xs)) found ∙ ap polymod (sym (append_assoc (expanded prefix) (v ∷ groups p) cs))
    ∙ valid final prefix (v ∷ groups p) (final-below v) ∙ ap final_register (sym version_is) in
    let right = eq-eqb (polymod (expanded prefix ++ gs)) (final_register (version_of gs)) sum in
    let taken : program_refusal (version_of gs) (program_groups gs) ≡ None =
    ap₂ (λ a b. program_refusal a b) version_is program_is ∙ program_taken v p is.is_program in
    record {
      not_refused = rw (most, least, one_case, front, no_bad, right) taken;
      version_is = version_is;
      program_is = ap bytes_of program_is ∙ bytes_back p is.is_program.bytes;
    }

-- the groups of the program, as the code takes them
pub part : (gs : List ℕ) (n : ℕ) → n ≡ length gs → 7 ≤ length gs → take (n - 6 - 1) (drop 1 gs) ≡ program_groups gs
part gs n e l =
    let k : 1 + (n - 6 - 1) ≡ length gs - 6 = omega arith in
    sym (drop-take 1 (n - 6 - 1) gs) ∙ ap (λ j. drop 1 (take j gs)) k

pub part-below : (prefix text : List ℕ) → length (letters_behind prefix text) ≤ first_bad_letter (letters_behind prefix text)
    → All IsGroup (program_groups (groups_behind prefix text))
part-below prefix text h =
    let gs = groups_behind prefix text in
    All-drop IsGroup 1 (take (length gs - 6) gs) (All-take IsGroup (length gs - 6) gs (A.groups-below (letters_behind prefix text) h))
