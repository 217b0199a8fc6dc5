-- All lists of random bytes that give some shares can be listed.
use Rattle.std.proofs.Common.{◌≡◌, ◌≢◌, ℕ, zero, suc, ◌<◌, Bool, true, false, List, [], ◌∷◌, ◌++◌, length, map, All, Contains}
use Rattle.std.proofs.Common.{refl, sym, ap, subst, ◌∙◌, ◌⊎◌, inl, inr, arith}
use Rattle.std.proofs.lemmas.Bool.{cases_eq}
use Rattle.std.proofs.lemmas.List.{nil_from_length}
use Rattle.std.proofs.lemmas.List.Elements.{All-nil, All-cons, All-head, All-tail, Contains-append_left, Contains-append_right}
use Rattle.std.proofs.lemmas.List.Kept.{AllPairs-cons}
use Rattle.s39_lists.proofs.Pairs.{AllPairs-nil}
use Rattle.s39_lists.proofs.Images.{Contains-map}
use Rattle.s39_lists.proofs.Sublists.{Contains-head, Contains-cons, Contains-cases, Contains-nil, each}
use Rattle.s39_lists.proofs.Decided.{same_or_other, among_or_not}
use Rattle.s39_kdf.specs.Bytes.{AreBytes}
use Rattle.s39_split.proofs.SplitLaws.{splits_take_the_bytes_needed, have_one_split}
use Rattle.s39_split.proofs.Choices.{length-shares}
use Rattle.s39_kdf.proofs.Rounds.{secrets_have_one_encryption}
use Rattle.s39_words.specs.declared.share.ShareFields.{ShareFields}
use Rattle.s39_backup.specs.Created.{Asked, needed_by}
use Rattle.s39_backup.proofs.Creations.{backup_once}
use Rattle.s39_secrecy.specs.Secrecy.{CanBeAsked, Give, AreDifferent, AreAll}
use Rattle.s39_secrecy.proofs.OneToOne.{random_or_not, some_backup}

-- ---- lists of bytes

-- lists that begin with a byte below k and go on with one of these
record HaveHeads (rest : List (List ℕ)) (k : ℕ) : Type 0 where
  pub lists : List (List ℕ)
  pub complete : (byte : ℕ) (list : List ℕ) → byte < k → Contains rest list → Contains lists (byte ∷ list)

have_heads : (rest : List (List ℕ)) (k : ℕ) → HaveHeads rest k
have_heads rest zero = record { lists = []; complete = λ byte list below among. absurd (omega (arith, below)) }
have_heads rest (suc k) =
    let have = have_heads rest k in
    let first = map (λ list. k ∷ list) rest in
    record {
      lists = first ++ have.lists;
      complete = λ byte list below among. elim (cases_eq byte k) [
        | inl same ↦ Contains-append_left first have.lists (byte ∷ list)
            (subst (λ (b : ℕ). Contains first (b ∷ list)) (sym same) (Contains-map (λ list. k ∷ list) rest list among))
        | inr other ↦ Contains-append_right first have.lists (byte ∷ list) (have.complete byte list (grind (arith, below, other)) among)
      ];
    }

-- every list of so many bytes is among these
record HaveLists (n : ℕ) : Type 0 where
  pub lists : List (List ℕ)
  pub complete : (list : List ℕ) → AreBytes list → length list ≡ n → Contains lists list

longer : (n : ℕ) (rest : HaveLists n) (have : HaveHeads rest.lists 256) (list : List ℕ) → AreBytes list → length list ≡ suc n
    → Contains have.lists list
longer n rest have [] bytes number = absurd (omega (arith, number))
longer n rest have (byte ∷ list) bytes number =
    have.complete byte list (All-head (λ byte. byte < 256) byte list bytes)
    (rest.complete list (All-tail (λ byte. byte < 256) byte list bytes) (omega (arith, number)))

have_lists : (n : ℕ) → HaveLists n
have_lists zero = record {
  lists = [] ∷ [];
  complete = λ list bytes none. subst (Contains ([] ∷ [])) (sym (nil_from_length list none)) (Contains-head [] []);
}
have_lists (suc n) =
    let rest = have_lists n in
    let have = have_heads rest.lists 256 in
    record { lists = have.lists; complete = longer n rest have }

-- ---- those of one kind

-- all of these that are of one kind, each once
record HaveChosen (P : List ℕ → Type 0) (lists : List (List ℕ)) : Type 0 where
  pub chosen : List (List ℕ)
  pub are : AreDifferent P chosen
  pub complete : (list : List ℕ) → Contains lists list → P list → Contains chosen list

have_chosen : (P : List ℕ → Type 0) → ((list : List ℕ) → P list ⊎ (P list → ⊥)) → (lists : List (List ℕ)) → HaveChosen P lists
have_chosen P or_not [] = record {
  chosen = [];
  are = record { of_kind = All-nil P; different = AllPairs-nil (λ a b. a ≢ b) };
  complete = λ list among is. absurd (Contains-nil list among);
}
have_chosen P or_not (first ∷ lists) =
    let have = have_chosen P or_not lists in
    elim (or_not first) [
      | inr not ↦ record {
        chosen = have.chosen;
        are = have.are;
        complete = λ list among is. elim (Contains-cases first lists list among) [
          | inl same ↦ absurd (not (subst P (sym same) is))
          | inr later ↦ have.complete list later is
        ];
      }
      | inl is ↦ elim (among_or_not (same_or_other cases_eq) have.chosen first) [
        | inl there ↦ record {
          chosen = have.chosen;
          are = have.are;
          complete = λ list among also. elim (Contains-cases first lists list among) [
            | inl same ↦ subst (Contains have.chosen) same there
            | inr later ↦ have.complete list later also
          ];
        }
        | inr missing ↦ record {
          chosen = first ∷ have.chosen;
          are = record {
            of_kind = All-cons P first have.chosen is have.are.of_kind;
            different = AllPairs-cons (λ a b. a ≢ b) first have.chosen
                (each (λ list. first ≢ list) have.chosen (λ list among same. missing (subst (Contains have.chosen) (sym same) among)))
                have.are.different;
          };
          complete = λ list among also. elim (Contains-cases first lists list among) [
            | inl same ↦ subst (Contains (first ∷ have.chosen)) same (Contains-head first have.chosen)
            | inr later ↦ Contains-cons first have.chosen list (have.complete list later also)
          ];
        }
      ]
    ]

-- ---- shares

flag_or_other : (a b : Bool) → (a ≡ b) ⊎ (a ≢ b)
flag_or_other true true = inl refl
flag_or_other true false = inr (λ e. cc)
flag_or_other false true = inr (λ e. cc)
flag_or_other false false = inl refl

abbrev numbers : ShareFields → List ℕ
numbers s =
    s.id ∷ s.exponent ∷ s.group_index ∷ s.group_threshold ∷ s.group_count ∷ s.member_index ∷ s.member_threshold ∷ s.value.items

same_fields : (f g : ShareFields) → f.extendable ≡ g.extendable → numbers f ≡ numbers g → f ≡ g
same_fields f g flag same =
    let id : f.id ≡ g.id = cc in
    let exponent : f.exponent ≡ g.exponent = cc in
    let group_index : f.group_index ≡ g.group_index = cc in
    let group_threshold : f.group_threshold ≡ g.group_threshold = cc in
    let group_count : f.group_count ≡ g.group_count = cc in
    let member_index : f.member_index ≡ g.member_index = cc in
    let member_threshold : f.member_threshold ≡ g.member_threshold = cc in
    let value : f.value.items ≡ g.value.items = cc in
    ap (λ x. record f { id = x }) id
    ∙ ap (λ x. record f { id = g.id; extendable = x }) flag
    ∙ ap (λ x. record f { id = g.id; extendable = g.extendable; exponent = x }) exponent
    ∙ ap (λ x. record f { id = g.id; extendable = g.extendable; exponent = g.exponent; group_index = x }) group_index
    ∙ ap (λ x. record g {
      group_threshold = x;
      group_count = f.group_count;
      member_index = f.member_index;
      member_threshold = f.member_threshold;
      value = f.value;
    }) group_threshold
    ∙ ap (λ x. record g { group_count = x; member_index = f.member_index; member_threshold = f.member_threshold; value = f.value }) group_count
    ∙ ap (λ x. record g { member_index = x; member_threshold = f.member_threshold; value = f.value }) member_index
    ∙ ap (λ x. record g { member_threshold = x; value = f.value }) member_threshold
    ∙ ap (λ x. record g { value = record { items = x } }) value

share_or_other : (f g : ShareFields) → (f ≡ g) ⊎ (f ≢ g)
share_or_other f g = elim (flag_or_other f.extendable g.extendable) [
  | inr other ↦ inr (λ e. other (ap (λ (s : ShareFields). s.extendable) e))
  | inl flag ↦ elim (same_or_other cases_eq (numbers f) (numbers g)) [
    | inr other ↦ inr (λ e. other (ap numbers e))
    | inl same ↦ inl (same_fields f g flag same)
  ]
]

-- these shares have all of some, or they don't
all_or_not : (shares some : List ShareFields) → All (Contains shares) some ⊎ (All (Contains shares) some → ⊥)
all_or_not shares [] = inl (All-nil (Contains shares))
all_or_not shares (first ∷ some) = elim (among_or_not share_or_other shares first) [
  | inr missing ↦ inr (λ all. missing (All-head (Contains shares) first some all))
  | inl among ↦ elim (all_or_not shares some) [
    | inr not ↦ inr (λ all. not (All-tail (Contains shares) first some all))
    | inl rest ↦ inl (All-cons (Contains shares) first some among rest)
  ]
]

-- ---- random bytes

give_or_not : (asked : Asked) (some : List ShareFields) → CanBeAsked asked → (random : List ℕ)
    → Give asked some random ⊎ (Give asked some random → ⊥)
give_or_not asked some can random = elim (random_or_not asked random) [
  | inr not ↦ inr (λ given. not given.are)
  | inl are ↦
      let (shares, created) = some_backup asked can random are in
      elim (all_or_not shares some) [
        | inl all ↦ inl (record { are = are; shares = shares; created = created; belong = all })
        | inr not ↦ inr (λ given.
            not (subst (λ xs. All (Contains xs) some)
            (backup_once splits_take_the_bytes_needed length-shares have_one_split secrets_have_one_encryption
            asked random given.shares shares given.created created)
            given.belong))
      ]
]

pub listed : (asked : Asked) (some : List ShareFields) → CanBeAsked asked → (lists : List (List ℕ)) × AreAll (Give asked some) lists
listed asked some can =
    let every = have_lists (needed_by asked) in
    let have = have_chosen (Give asked some) (give_or_not asked some can) every.lists in (
      have.chosen,
      record {
        different = have.are;
        complete = λ list given. have.complete list (every.complete list given.are.bytes given.are.number) given;
      },
    )
