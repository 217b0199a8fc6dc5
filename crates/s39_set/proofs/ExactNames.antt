-- Names that have just the groups and members that thresholds ask.
use Rattle.std.proofs.Common.{◌≡◌, ◌≢◌, ℕ, ◌<◌, ◌≤◌, ◌∷◌, ◌++◌, length, All, Contains, Option, Some, true, Less, Greater, nat_lt}
use Rattle.std.proofs.Common.{inl, inr, ◌⊎◌, ⊎_elim, refl, sym, ap, subst, ◌∙◌, arith, length-append, append_assoc, le_refl}
use Rattle.std.specs.Ordering.{ordering_reverse}
use Rattle.std.proofs.lemmas.Bool.{cases_lt, lt-ltb, le-ltb}
use Rattle.std.proofs.lemmas.List.{nil_from_length}
use Rattle.std.proofs.lemmas.List.Elements.{All-contains, Contains-append_left, Contains-append_right, Contains-append_cases}
use Rattle.s39_set.specs.Names.{Name, Names, name_cmp, names_cmp, IsAscending, names_in_group, most_groups}
use Rattle.s39_set.specs.Groups.{is_complete, complete_groups}
use Rattle.s39_lists.proofs.Sublists.{IsSublist, length-sublist, each, same_from_length, same_from_part, Contains-head, Contains-cases}
use Rattle.s39_lists.proofs.Pairs.{AllPairs-head}
use Rattle.s39_lists.proofs.Orders.{AllPairs-append_right, across}
use Rattle.s39_set.proofs.Ascending.{Precedes, name_cmp_one_way, names-sublist, same_names, same_names_from_length, less_than}
use Rattle.s39_set.proofs.NamesOrder.{names_order, IsBefore, ends, differs, before}
use Rattle.s39_set.proofs.Thresholds.{HasJust}
use Rattle.s39_set.proofs.MembersOf.{count, of_group, in_group, group-ascending, one_counted}
use Rattle.s39_set.proofs.CompleteGroups.{groups_one_way, is_complete_from, is_complete-none, complete_groups-ascending, complete_groups-threshold}
use Rattle.s39_set.proofs.CompleteGroups.{Contains-complete_groups, names_in_group-sublist, complete_groups-sublist}

-- ---- names with just what the thresholds ask

-- a group that has names has just as many as its threshold
pub exact_at : {T : ℕ → Option ℕ} {N : Names} {G : ℕ} {names : Names} → HasJust T N G names → (n : Name) → Contains names n
    → T n.0 ≡ Some (count names n.0)
exact_at {T} {N} {G} {names} just n among = All-contains (λ m. T m.0 ≡ Some (count names m.0)) names n just.members among

pub exact_group : {T : ℕ → Option ℕ} {N : Names} {G : ℕ} {names : Names} → HasJust T N G names → (g : ℕ) → 0 < count names g
    → T g ≡ Some (count names g)
exact_group {T} {N} {G} {names} just g some =
    let (n, among, same) = one_counted g names some in
    subst (λ h. T h ≡ Some (count names h)) same (exact_at just n among)

-- a group whose names are as many as its threshold is complete where it has some
pub complete_where : (T : ℕ → Option ℕ) (names : Names) (g : ℕ) → ((t : ℕ) → T g ≡ Some t → 1 ≤ t) → (0 < count names g → T g ≡ Some (count names g))
    → is_complete T names g ≡ nat_lt 0 (count names g)
complete_where T names g positive exact =
    elim (cases_lt 0 (count names g)) [
      | inl some ↦ is_complete_from T names g (count names g) (exact some) (omega arith) ∙ sym (lt-ltb 0 (count names g) some)
      | inr none ↦ is_complete-none T names g positive (nil_from_length (names_in_group g names) (omega arith)) ∙ sym (le-ltb 0 (count names g) none)
    ]

pub complete_is : {T : ℕ → Option ℕ} {N : Names} {G : ℕ} {names : Names} → ((g t : ℕ) → T g ≡ Some t → 1 ≤ t) → HasJust T N G names → (g : ℕ)
    → is_complete T names g ≡ nat_lt 0 (count names g)
complete_is {T} {N} {G} {names} positive just g = complete_where T names g (positive g) (exact_group just g)

pub complete_at : {T : ℕ → Option ℕ} {N : Names} {G : ℕ} {names : Names} → All (λ n. n.0 < most_groups) N → HasJust T N G names → (n : Name)
    → Contains names n → Contains (complete_groups T names) n.0
complete_at {T} {N} {G} {names} below just n among =
    Contains-complete_groups T names n.0 (count names n.0)
    (All-contains (λ m. m.0 < most_groups) N n below (All-contains (Contains N) names n just.at_hand among))
    (exact_at just n among) (le_refl (count names n.0))

-- and those are complete at hand
pub complete_at_hand : {T : ℕ → Option ℕ} {N : Names} {G : ℕ} {names : Names} → IsAscending N → HasJust T N G names → (n : Name)
    → Contains names n → is_complete T N n.0 ≡ true
complete_at_hand {T} {N} {G} {names} sorted just n among =
    is_complete_from T N n.0 (count names n.0) (exact_at just n among)
    (length-sublist (names_in_group-sublist n.0 (names-sublist N names sorted just.ascending just.at_hand)))

pub one_complete : (T : ℕ → Option ℕ) → ((g t : ℕ) → T g ≡ Some t → 1 ≤ t) → (names : Names) (g : ℕ) → Contains (complete_groups T names) g
    → (n : Name) × Contains names n × (n.0 ≡ g)
one_complete T positive names g among =
    let has = complete_groups-threshold T names g among in
    one_counted g names (omega (arith, positive g has.threshold has.is, has.enough))

-- where all names of a group of the one are among the other's, they are the other's
pub same_members : {T : ℕ → Option ℕ} {N : Names} {G : ℕ} {xs ys : Names} → HasJust T N G xs → HasJust T N G ys → (x y : Name)
    → Contains xs x → Contains ys y → x.0 ≡ y.0 → ((n : Name) → Contains xs n → n.0 ≡ y.0 → Contains ys n) → Contains xs y
same_members {T} {N} {G} {xs} {ys} first second x y in_xs in_ys same inside =
    let g : ℕ = y.0 in
    let own : T g ≡ Some (count xs g) = subst (λ h. T h ≡ Some (count xs h)) same (exact_at first x in_xs) in
    let both : Some (count xs g) ≡ Some (count ys g) = sym own ∙ exact_at second y in_ys in
    let lengths : count xs g ≡ count ys g = cc in
    let whole : names_in_group g ys ≡ names_in_group g xs =
    same_names_from_length (names_in_group g ys) (names_in_group g xs) (group-ascending g ys second.ascending) (group-ascending g xs first.ascending)
    (each (Contains (names_in_group g ys)) (names_in_group g xs)
    (λ n among. let (here, of_g) = of_group g xs n among in in_group g ys n (inside n here of_g) of_g))
    (omega arith) in
    (of_group g xs y (subst (λ l. Contains l y) whole (in_group g ys y in_ys refl))).0

-- where all complete groups of the one are the other's too, they are the other's
pub same_complete : {T : ℕ → Option ℕ} {N : Names} {G : ℕ} {xs ys : Names} → HasJust T N G xs → HasJust T N G ys
    → All (Contains (complete_groups T ys)) (complete_groups T xs) → complete_groups T ys ≡ complete_groups T xs
same_complete {T} {N} {G} {xs} {ys} first second inside =
    let one = first.groups in
    let other = second.groups in
    same_from_part (λ a b. a < b) groups_one_way (complete_groups T ys) (complete_groups T xs) (complete_groups-ascending T ys)
    (complete_groups-ascending T xs) inside (omega arith)

-- no fewer of the names complete as many groups
pub all_needed : {T : ℕ → Option ℕ} {N : Names} {G : ℕ} {names : Names} → All (λ n. n.0 < most_groups) N → HasJust T N G names
    → (fewer : Names) → IsAscending fewer → All (Contains names) fewer → G ≤ length (complete_groups T fewer) → fewer ≡ names
all_needed {T} {N} {G} {names} below just fewer ascending inside enough =
    let part : IsSublist fewer names = names-sublist names fewer just.ascending ascending inside in
    let groups = just.groups in
    let complete : complete_groups T fewer ≡ complete_groups T names = same_from_length (complete_groups-sublist T part) (omega arith) in
    same_names fewer names ascending just.ascending
    (each (Contains fewer) names
    (λ n among.
    let has = complete_groups-threshold T fewer n.0 (subst (λ gs. Contains gs n.0) (sym complete) (complete_at below just n among)) in
    let thresholds : Some (count names n.0) ≡ Some has.threshold = sym (exact_at just n among) ∙ has.is in
    let counts : count names n.0 ≡ has.threshold = cc in
    let same : names_in_group n.0 fewer ≡ names_in_group n.0 names =
    same_from_length (names_in_group-sublist n.0 part) (let many = has.enough in omega arith) in
    (of_group n.0 fewer n (subst (λ l. Contains l n) (sym same) (in_group n.0 names n among refl))).0))
    inside

-- so none goes on where another ends
pub alone : {T : ℕ → Option ℕ} {N : Names} {G : ℕ} → All (λ n. n.0 < most_groups) N → (xs : Names) (z : Name) (zs : Names)
    → HasJust T N G xs → HasJust T N G (xs ++ z ∷ zs) → ⊥
alone below xs z zs just longer =
    let groups = just.groups in
    let same = all_needed below longer xs just.ascending (each (Contains (xs ++ z ∷ zs)) xs (λ x among. Contains-append_left xs (z ∷ zs) x among))
    (omega arith) in
    let lengths : length xs ≡ length (xs ++ z ∷ zs) = ap length same in
    absurd (omega (arith, length-append xs (z ∷ zs)))

-- ---- the least that can stand behind a front

-- a name can't stand before some of these: all of them come first, or all of its group do, which has some
abbrev pub HasNoRoom : Names → Names → Name → Type 0
HasNoRoom front names y = All (λ n. name_cmp n y ≡ Less) names
    ⊎ (((n : Name) × Contains (front ++ names) n × (n.0 ≡ y.0)) × ((n : Name) → Contains names n → n.0 ≡ y.0 → name_cmp n y ≡ Less))

-- names don't come after others with the same front, where those that only the others have find no room
pub not_greater : {T : ℕ → Option ℕ} {N : Names} {G : ℕ} → All (λ n. n.0 < most_groups) N → (front names others : Names)
    → HasJust T N G (front ++ names) → HasJust T N G (front ++ others)
    → ((y : Name) → Contains others y → (Contains (front ++ names) y → ⊥) → HasNoRoom front names y) → names_cmp names others ≢ Greater
not_greater {T} {N} {G} below P names others just other no_room greater =
    by (before others names (names_order.antisymm others names ∙ ap ordering_reverse greater)) just other no_room
  where
    by : {ys xs : Names} → IsBefore ys xs → HasJust T N G (P ++ xs) → HasJust T N G (P ++ ys)
        → ((y : Name) → Contains ys y → (Contains (P ++ xs) y → ⊥) → HasNoRoom P xs y) → ⊥
    by (ends front x xs) just other no_room = alone below (P ++ front) x xs other (subst (HasJust T N G) (sym (append_assoc P front (x ∷ xs))) just)
    by (differs front y ys x xs less) just other no_room =
        let mine = P ++ (front ++ x ∷ xs) in
        let theirs = P ++ (front ++ y ∷ ys) in
        let x_in = Contains-append_right front (x ∷ xs) x (Contains-head x xs) in
        let y_in = Contains-append_right front (y ∷ ys) y (Contains-head y ys) in
        let ordered = AllPairs-append_right Precedes front (x ∷ xs) (AllPairs-append_right Precedes P (front ++ x ∷ xs) just.ascending) in
        let behind : (n : Name) → Contains (x ∷ xs) n → name_cmp y n ≡ Less =
        λ n among.
        ⊎_elim
        (λ (same : x ≡ n). subst (Precedes y) same less)
        (λ (later : Contains xs n). less_than y x n less (All-contains (Precedes x) xs n (AllPairs-head Precedes x xs ordered) later))
        (Contains-cases x xs n among) in
        let shared : (n : Name) → Contains mine n → (Contains (x ∷ xs) n → ⊥) → Contains theirs n =
        λ n among apart.
        ⊎_elim
        (λ (first : Contains P n). Contains-append_left P (front ++ y ∷ ys) n first)
        (λ (rest : Contains (front ++ x ∷ xs) n).
        ⊎_elim
        (λ (middle : Contains front n). Contains-append_right P (front ++ y ∷ ys) n (Contains-append_left front (y ∷ ys) n middle))
        (λ (last : Contains (x ∷ xs) n). absurd (apart last))
        (Contains-append_cases front (x ∷ xs) n rest))
        (Contains-append_cases P (front ++ x ∷ xs) n among) in
        let once : Precedes y y → ⊥ = λ e. name_cmp_one_way y y e e in
        let missing : Contains mine y → ⊥ =
        λ among.
        ⊎_elim
        (λ (first : Contains P y). once (across Precedes P (front ++ y ∷ ys) other.ascending y y first y_in))
        (λ (rest : Contains (front ++ x ∷ xs) y).
        ⊎_elim
        (λ (middle : Contains front y). once
        (across Precedes front (y ∷ ys) (AllPairs-append_right Precedes P (front ++ y ∷ ys) other.ascending) y y middle (Contains-head y ys)))
        (λ (last : Contains (x ∷ xs) y). once (behind y last))
        (Contains-append_cases front (x ∷ xs) y rest))
        (Contains-append_cases P (front ++ x ∷ xs) y among) in
        elim (no_room y y_in missing) [
          | inl all ↦ name_cmp_one_way y x less (All-contains (λ n. name_cmp n y ≡ Less) (front ++ x ∷ xs) x all x_in)
          | inr (one, lower) ↦ missing
              (same_members just other one.0 y one.1 (Contains-append_right P (front ++ y ∷ ys) y y_in) one.2
              (λ n among same. shared n among
              (λ last. name_cmp_one_way y n (behind n last) (lower n (Contains-append_right front (x ∷ xs) n last) same))))
        ]
