-- A share is refused by none exactly where it can join.
use Rattle.std.proofs.Common.{◌≡◌, ℕ, Bool, true, false, List, length, get_or, filter, All, Contains, Option, Some, None, cond, not}
use Rattle.std.proofs.Common.{inl, inr, refl, sym, ap, ◌∙◌, subst, arith}
use Rattle.std.specs.Prelude.{◌==◌, bytes_eq}
use Rattle.std.specs.List.{list_any}
use Rattle.std.specs.Cmp.Lexicographic.{bytes_decides}
use Rattle.std.proofs.lemmas.Bool.{cases_Bool, false≢true, eqb-true, eq-eqb, not-false, not_from_true}
use Rattle.std.proofs.lemmas.List.Elements.{All-contains, Contains-get_or}
use Rattle.std.proofs.lemmas.List.Folds.{list_any_none, list_any_at}
use Rattle.s39_words.specs.declared.share.ShareFields.{ShareFields}
use Rattle.s39_words.specs.Share.{flag_bit}
use Rattle.s39_set.specs.Names.{Name}
use Rattle.s39_set.specs.ShareSet.{Agrees, IsShareSet, CanJoin, name_of, is_in_group, has_name, some_differs, refusal_of}
use Rattle.s39_set.specs.declared.set_error.SetError.{SetError}
use Rattle.s39_lists.proofs.Sublists.{each, of_filter, Contains-filter}
use Rattle.s39_set.proofs.Sets.{agree, one_share, has_name-is, has_name-own}

-- where a test of some fails, it fails at each
none_pass : {X : Type 0} (test : X → Bool) (xs : List X) → list_any test xs ≡ false → All (λ x. test x ≡ false) xs
none_pass test xs fails k d below =
    elim (cases_Bool (test (get_or xs k d))) [
      | inl passes ↦ absurd (false≢true (sym fails ∙ list_any_at test xs k d below passes))
      | inr stays ↦ stays
    ]

pub agrees-itself : (s : ShareFields) → Agrees s s
agrees-itself s = record {
  id = refl;
  extendable = refl;
  exponent = refl;
  group_threshold = refl;
  group_count = refl;
  value_length = refl;
  member_threshold = λ _. refl;
}

pub agrees-back : (s t : ShareFields) → Agrees s t → Agrees t s
agrees-back s t h = record {
  id = sym h.id;
  extendable = sym h.extendable;
  exponent = sym h.exponent;
  group_threshold = sym h.group_threshold;
  group_count = sym h.group_count;
  value_length = sym h.value_length;
  member_threshold = λ e. sym (h.member_threshold (sym e));
}

-- a flag is known by its bit
pub flag-from_bit : (a b : Bool) → flag_bit a ≡ flag_bit b → a ≡ b
flag-from_bit true true h = refl
flag-from_bit true false h = absurd (let bad : 1 ≡ 0 = h in omega arith)
flag-from_bit false true h = absurd (let bad : 0 ≡ 1 = h in omega arith)
flag-from_bit false false h = refl

-- numbers of which the test for a difference fails are the same
pub same_from_test : (m n : ℕ) → not (m == n) ≡ false → m ≡ n
same_from_test m n h = eqb-true m n (not-false (m == n) h)

test_from_same : (m n : ℕ) → m ≡ n → not (m == n) ≡ false
test_from_same m n h = not_from_true (m == n) (eq-eqb m n h)

unfoldable fields : ℕ → Bool → ℕ → ℕ → ℕ → ℕ → ℕ → ℕ → List ℕ → ShareFields
fields id extendable exponent group_index group_threshold group_count member_index member_threshold value = record {
  id = id;
  extendable = extendable;
  exponent = exponent;
  group_index = group_index;
  group_threshold = group_threshold;
  group_count = group_count;
  member_index = member_index;
  member_threshold = member_threshold;
  value = record { items = value };
}

fields-of : (s : ShareFields) → fields s.id s.extendable s.exponent s.group_index s.group_threshold s.group_count s.member_index s.member_threshold
    s.value.items ≡ s
unfolding fields
fields-of s = refl

-- shares of one name that agree and have one value are the same
same_share : (s t : ShareFields) → Agrees s t → name_of s ≡ name_of t → s.value.items ≡ t.value.items → s ≡ t
same_share s t h names values =
    let group : s.group_index ≡ t.group_index = ap (λ (n : Name). n.0) names in
    let member : s.member_index ≡ t.member_index = ap (λ (n : Name). n.1) names in
    let threshold = h.member_threshold group in
    let of_s = fields-of s in
    let of_t = fields-of t in
    let same : fields s.id s.extendable s.exponent s.group_index s.group_threshold s.group_count s.member_index s.member_threshold s.value.items
    ≡ fields t.id t.extendable t.exponent t.group_index t.group_threshold t.group_count t.member_index t.member_threshold t.value.items = cc in
    sym of_s ∙ same ∙ of_t

-- a share that can join is the one of its name, where there is one
pub same_from_joins : (shares : List ShareFields) (s share : ShareFields) → CanJoin shares share → Contains shares s → name_of s ≡ name_of share → s ≡ share
same_from_joins shares s share joins has_s names =
    same_share s share (All-contains (λ t. Agrees t share) shares s joins.agrees has_s) names
    (All-contains (λ t. name_of t ≡ name_of share → t.value.items ≡ share.value.items) shares s joins.same_value has_s names)

-- where there is no cause, the first one doesn't apply, and there is none behind it
no_cause : (applies : Bool) (error : SetError) (rest : Option SetError) → cond applies (Some error) rest ≡ None → (applies ≡ false) × (rest ≡ None)
no_cause true error rest h = absurd (let bad : Some error ≡ None = h in cc)
no_cause false error rest h = (refl, h)

module _ (shares : List ShareFields) (share : ShareFields) where
  -- the shares of its group, and of its name
  abbrev of_group : List ShareFields
  of_group = filter (is_in_group share.group_index) shares

  abbrev of_name : List ShareFields
  of_name = filter (has_name share.group_index share.member_index) shares

  -- what the test for another number says of each
  none_differs : (number : ShareFields → ℕ) (some : List ShareFields) → some_differs number some share ≡ false → (s : ShareFields) → Contains some s
      → number s ≡ number share
  none_differs number some fails s has_s =
      same_from_test (number s) (number share) (All-contains (λ t. not (number t == number share) ≡ false) some s
      (none_pass (λ t. not (number t == number share)) some fails) has_s)

  differs_none : (number : ShareFields → ℕ) (some : List ShareFields) → All (λ s. number s ≡ number share) some → some_differs number some share ≡ false
  differs_none number some same =
      list_any_none (λ s. not (number s == number share)) some (λ k d below. test_from_same (number (get_or some k d)) (number share) (same k d below))

  -- a share that isn't refused can join
  pub joins_from_none : refusal_of shares share ≡ None → CanJoin shares share
  joins_from_none h =
      let (id, after_id) = no_cause _ _ _ h in
      let (extendable, after_extendable) = no_cause _ _ _ after_id in
      let (exponent, after_exponent) = no_cause _ _ _ after_extendable in
      let (group_threshold, after_group_threshold) = no_cause _ _ _ after_exponent in
      let (group_count, after_group_count) = no_cause _ _ _ after_group_threshold in
      let (value_length, after_value_length) = no_cause _ _ _ after_group_count in
      let (member_threshold, after_member_threshold) = no_cause _ _ _ after_value_length in
      let (value, _) = no_cause _ _ _ after_member_threshold in
      record {
        agrees = each (λ s. Agrees s share) shares (λ s has_s. record {
          id = none_differs (λ t. t.id) shares id s has_s;
          extendable = flag-from_bit s.extendable share.extendable (none_differs (λ t. flag_bit t.extendable) shares extendable s has_s);
          exponent = none_differs (λ t. t.exponent) shares exponent s has_s;
          group_threshold = none_differs (λ t. t.group_threshold) shares group_threshold s has_s;
          group_count = none_differs (λ t. t.group_count) shares group_count s has_s;
          value_length = none_differs (λ t. length t.value.items) shares value_length s has_s;
          member_threshold = λ group. none_differs (λ t. t.member_threshold) of_group member_threshold s
              (Contains-filter (is_in_group share.group_index) shares s has_s (eq-eqb s.group_index share.group_index group));
        });
        same_value = each (λ s. name_of s ≡ name_of share → s.value.items ≡ share.value.items) shares (λ s has_s names.
            let passes : has_name share.group_index share.member_index s ≡ true = subst (λ (n : Name). has_name n.0 n.1 s ≡ true) names (has_name-own s) in
            let among = Contains-filter (has_name share.group_index share.member_index) shares s has_s passes in
            (bytes_decides s.value.items share.value.items).0
            (not-false (bytes_eq s.value.items share.value.items)
            (All-contains (λ t. not (bytes_eq t.value.items share.value.items) ≡ false) of_name s
            (none_pass (λ t. not (bytes_eq t.value.items share.value.items)) of_name value) among)));
      }

  -- and a share that can join isn't refused
  pub none_from_joins : CanJoin shares share → refusal_of shares share ≡ None
  none_from_joins joins =
      let same : (number : ShareFields → ℕ) → ((s : ShareFields) → Agrees s share → number s ≡ number share) → some_differs number shares share ≡ false =
      λ number agrees. differs_none number shares (λ k d below. agrees (get_or shares k d) (joins.agrees k d below)) in
      let thresholds : some_differs (λ s. s.member_threshold) of_group share ≡ false =
      differs_none (λ s. s.member_threshold) of_group (each (λ s. s.member_threshold ≡ share.member_threshold) of_group (λ s among.
      let (has_s, group) = of_filter (is_in_group share.group_index) shares s among in
      (All-contains (λ t. Agrees t share) shares s joins.agrees has_s).member_threshold (eqb-true s.group_index share.group_index group))) in
      let values : list_any (λ s. not (bytes_eq s.value.items share.value.items)) of_name ≡ false =
      list_any_none (λ s. not (bytes_eq s.value.items share.value.items)) of_name
      (each (λ s. not (bytes_eq s.value.items share.value.items) ≡ false) of_name (λ s among.
      let (has_s, named) = of_filter (has_name share.group_index share.member_index) shares s among in
      let names = has_name-is share.group_index share.member_index s named in
      not_from_true (bytes_eq s.value.items share.value.items)
      ((bytes_decides s.value.items share.value.items).1
      (All-contains (λ t. name_of t ≡ name_of share → t.value.items ≡ share.value.items) shares s joins.same_value has_s names)))) in
      rw (
        same (λ s. s.id) (λ s agrees. agrees.id),
        same (λ s. flag_bit s.extendable) (λ s agrees. ap flag_bit agrees.extendable),
        same (λ s. s.exponent) (λ s agrees. agrees.exponent),
        same (λ s. s.group_threshold) (λ s agrees. agrees.group_threshold),
        same (λ s. s.group_count) (λ s agrees. agrees.group_count),
        same (λ s. length s.value.items) (λ s agrees. agrees.value_length),
        thresholds,
        values,
      )
      refl

-- a share of the set isn't refused
pub not_refused : (shares : List ShareFields) → IsShareSet shares → (share : ShareFields) → Contains shares share → refusal_of shares share ≡ None
not_refused shares is share has_share =
    none_from_joins shares share (record {
      agrees = λ k d below. agree shares is (get_or shares k d) share (Contains-get_or shares k d below) has_share;
      same_value = λ k d below names. ap (λ (s : ShareFields). s.value.items)
          (one_share shares is (get_or shares k d) share (Contains-get_or shares k d below) has_share names);
    })
