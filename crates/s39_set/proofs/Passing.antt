-- How many parts of a list of names pass a test.
use Rattle.std.proofs.Common.{◌≡◌, ℕ, zero, suc, ◌+◌, ◌*◌, ◌≤◌, Bool, true, false, cond, List, [], ◌∷◌, ◌++◌, length, filter, map, Option, Some, None}
use Rattle.std.proofs.Common.{nat_eq, refl, ap, ap₂, ◌∙◌, arith, length-append}
use Rattle.std.specs.Prelude.{◌&&◌}
use Rattle.std.specs.Option.{option_eq, option_map_or}
use Rattle.std.proofs.lemmas.Bool.{eq-eqb, ne_eqb}
use Rattle.std.proofs.lemmas.List.Elements.{filter-append}
use Rattle.s39_set.specs.Names.{Names}
use Rattle.s39_set.specs.Counting.{ways, choices}
use Rattle.s39_lists.proofs.Sublists.{IsSublist, none, keeps, leaves}
use Rattle.s39_set.proofs.AllQuorums.{parts_of}
use Rattle.s39_set.proofs.Ways.{ways-none, sum_of_parts, two_lengths, one_length}

length-kept : {X : Type 0} (passed : Bool) (x : X) (xs : List X) → length (cond passed (x ∷ xs) xs) ≡ cond passed 1 0 + length xs
length-kept true x xs = omega arith
length-kept false x xs = omega arith

-- an element that passes counts one
pub length-filter-cons : {X : Type 0} (p : X → Bool) (x : X) (xs : List X) → length (filter p (x ∷ xs)) ≡ cond (p x) 1 0 + length (filter p xs)
length-filter-cons p x xs = length-kept (p x) x (filter p xs)

length-filter-map : {X Y : Type 0} (p : Y → Bool) (f : X → Y) (xs : List X) → length (filter p (map f xs)) ≡ length (filter (λ x. p (f x)) xs)
length-filter-map p f [] = refl
length-filter-map p f (x ∷ xs) =
    length-filter-cons p (f x) (map f xs)
    ∙ ap (λ n. cond (p (f x)) 1 0 + n) (length-filter-map p f xs)
    ∙ sym_cons
  where
    sym_cons : cond (p (f x)) 1 0 + length (filter (λ y. p (f y)) xs) ≡ length (filter (λ y. p (f y)) (x ∷ xs))
    sym_cons = let here = length-filter-cons (λ y. p (f y)) x xs in omega arith

-- ---- counting

-- how many parts of a list pass
abbrev pub passing : (Names → Bool) → Names → ℕ
passing p [] = cond (p []) 1 0
passing p (x ∷ xs) = passing (λ part. p (x ∷ part)) xs + passing p xs

pub passing-length : (p : Names → Bool) (xs : Names) → length (filter p ([] ∷ parts_of xs)) ≡ passing p xs
passing-length p [] = let here = length-filter-cons p [] [] in omega arith
passing-length p (x ∷ xs) =
    let parts : List Names = [] ∷ parts_of xs in
    let with_it : List Names = map (λ part. x ∷ part) parts in
    let whole : length (filter p ([] ∷ parts_of (x ∷ xs))) ≡ cond (p []) 1 0 + length (filter p (with_it ++ parts_of xs)) =
    length-filter-cons p [] (with_it ++ parts_of xs) in
    let split : length (filter p (with_it ++ parts_of xs)) ≡ length (filter p with_it) + length (filter p (parts_of xs)) =
    ap length (filter-append p with_it (parts_of xs)) ∙ length-append (filter p with_it) (filter p (parts_of xs)) in
    let with : length (filter p with_it) ≡ passing (λ part. p (x ∷ part)) xs =
    length-filter-map p (λ part. x ∷ part) parts ∙ passing-length (λ part. p (x ∷ part)) xs in
    let without : cond (p []) 1 0 + length (filter p (parts_of xs)) ≡ passing p xs =
    (let here = length-filter-cons p [] (parts_of xs) in let rest = passing-length p xs in omega arith) in
    omega arith

-- tests that agree on all parts count as many
pub passing-same : (p q : Names → Bool) (xs : Names) → ((part : Names) → IsSublist part xs → p part ≡ q part) → passing p xs ≡ passing q xs
passing-same p q [] same = ap (λ b. cond b 1 0) (same [] none)
passing-same p q (x ∷ xs) same =
    ap₂ ◌+◌
    (passing-same (λ part. p (x ∷ part)) (λ part. q (x ∷ part)) xs (λ part s. same (x ∷ part) (keeps s)))
    (passing-same p q xs (λ part s. same part (leaves s)))

pub passing-none : (xs : Names) → passing (λ part. false) xs ≡ 0
passing-none [] = refl
passing-none (x ∷ xs) = let rest = passing-none xs in omega arith

-- where a test goes by how long the part of the first list is, and by the part of the second
pub passing-append : (p : Names → Bool) (q : ℕ → Names → Bool) (xs ys : Names)
    → ((front back : Names) → IsSublist front xs → IsSublist back ys → p (front ++ back) ≡ q (length front) back)
    → passing p (xs ++ ys) ≡ sum_of_parts (length xs) (λ long. passing (q long) ys)
passing-append p q [] ys same = passing-same p (q 0) ys (λ back s. same [] back none s)
passing-append p q (x ∷ xs) ys same =
    ap₂ ◌+◌
    (passing-append (λ part. p (x ∷ part)) (λ long. q (suc long)) xs ys (λ front back s r. same (x ∷ front) back (keeps s) r))
    (passing-append p q xs ys (λ front back s r. same front back (leaves s) r))

-- ---- thresholds

-- just so many of these counts are positive, and each of these is its threshold
abbrev pub fits : List (Option ℕ) → ℕ → List ℕ → Bool
fits [] zero counts = true
fits [] (suc required) counts = false
fits (t ∷ ts) required [] = false
fits (t ∷ ts) required (zero ∷ counts) = fits ts required counts
fits (t ∷ ts) zero (suc count ∷ counts) = false
fits (t ∷ ts) (suc required) (suc count ∷ counts) = option_eq nat_eq t (Some (suc count)) && fits ts required counts

-- with one group more
pub passing-group : (o : Option ℕ) → ((t : ℕ) → o ≡ Some t → 1 ≤ t) → (n required : ℕ) (ts : List (Option ℕ)) (counts : Names → List ℕ)
    (names : Names) (uses : List ℕ) → ((k : ℕ) → passing (λ part. fits ts k (counts part)) names ≡ ways uses k)
    → sum_of_parts n (λ long. passing (λ part. fits (o ∷ ts) required (long ∷ counts part)) names)
    ≡ ways (option_map_or (choices n) o 0 ∷ uses) required
passing-group o positive n zero ts counts names uses rest =
    one_length n (λ long. passing (λ part. fits (o ∷ ts) 0 (long ∷ counts part)) names) (λ other. passing-none names)
    ∙ rest 0 ∙ ways-none uses
passing-group None positive n (suc k) ts counts names uses rest =
    let whole = one_length n (λ long. passing (λ part. fits (None ∷ ts) (suc k) (long ∷ counts part)) names) (λ other. passing-none names) in
    let empty = rest (suc k) in
    whole ∙ empty ∙ (let zero_uses : ways uses (suc k) ≡ ways uses (suc k) + 0 * ways uses k = omega arith in zero_uses)
passing-group (Some zero) positive n (suc k) ts counts names uses rest = absurd (let some = positive 0 refl in omega arith)
passing-group (Some (suc t)) positive n (suc k) ts counts names uses rest =
    let f : ℕ → ℕ = λ long. passing (λ part. fits (Some (suc t) ∷ ts) (suc k) (long ∷ counts part)) names in
    let here : f (suc t) ≡ ways uses k =
    passing-same (λ part. nat_eq (suc t) (suc t) && fits ts k (counts part)) (λ part. fits ts k (counts part)) names
    (λ part _. ap (λ b. b && fits ts k (counts part)) (eq-eqb (suc t) (suc t) refl))
    ∙ rest k in
    two_lengths n t f
    (λ other apart.
    passing-same (λ part. nat_eq (suc t) (suc other) && fits ts k (counts part)) (λ part. false) names
    (λ part _. ap (λ b. b && fits ts k (counts part)) (ne_eqb (suc t) (suc other) (λ same. apart (omega arith))))
    ∙ passing-none names)
    ∙ ap₂ (λ a b. a + choices n (suc t) * b) (rest (suc k)) here
