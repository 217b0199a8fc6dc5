-- How long the lines of a status are.
use Rattle.std.proofs.Common.{◌≡◌, ℕ, ◌+◌, ◌-◌, ◌<◌, ◌≤◌, List, [], ◌∷◌, ◌++◌, length, map, All, Option, Some, None, Result, Ok, refl, ap, sym}
use Rattle.std.proofs.Common.{◌∙◌, subst, arith}
use Rattle.std.specs.Prelude.{codes, find}
use Rattle.std.specs.Fmt.{decimal, digits}
use Rattle.std.specs.List.{range_with_len, flat_map}
use Rattle.std.specs.Option.{option_map}
use Rattle.std.proofs.lemmas.Fmt.{length-decimal-le}
use Rattle.std.proofs.lemmas.List.{length-append}
use Rattle.std.proofs.lemmas.List.FromFn.{get_or-map-range_with_len}
use Rattle.std.proofs.lemmas.List.Elements.{All-head, All-tail, All-map, All-weaker, All-contains}
use Rattle.s39_words.specs.declared.share.ShareFields.{ShareFields}
use Rattle.s39_words.specs.Share.{IsShare}
use Rattle.s39_lists.proofs.Finds.{Contains-find, some_same}
use Rattle.s39_lists.proofs.Ranges.{range-below}
use Rattle.s39_lists.proofs.Sublists.{length-sublist, filter_kept}
use Rattle.s39_set.specs.Names.{Names, AreNames, names_in_group, most_groups, most_members}
use Rattle.s39_set.specs.Groups.{is_complete, complete_groups}
use Rattle.s39_set.specs.Quorums.{member_threshold_of}
use Rattle.s39_set.specs.ShareSet.{IsShareSet, name_of, is_in_group}
use Rattle.s39_set.specs.Status.{status_of, group_status_of}
use Rattle.s39_set.specs.Written.{quorum_text}
use Rattle.s39_set.specs.declared.set_lack.SetLack.TheVariants.{NoShares}
use Rattle.s39_set.specs.declared.status.Status.{Status}
use Rattle.s39_set.proofs.CompleteGroups.{names_in_group-sublist}
use Rattle.s39_input.specs.declared.fault.Fault.{Fault}
use Rattle.s39_input.specs.declared.fault.Refusal.TheVariants.{Lack}
use Rattle.s39_input.specs.Accepted.{IsReadAs}
use Rattle.s39_input.specs.Fault.{fault_of, fault_of_stop}
use Rattle.s39_input.specs.Input.{Input, ended_line}
use Rattle.s39_reading.specs.Lengths.{longest_status}
use Rattle.s39_reading.specs.Status.{first_line, group_text, status_text, status_written, IsStatusOf, IsStatusOutput}
use Rattle.s39_input.specs.Steps.{gives, refuses}
use Rattle.s39_input.proofs.Texts.NamesShort.{bytes_of, bytes_of-sublist, length-quorum_text}
use Rattle.s39_input.proofs.Texts.AllNames.{all_names, part_of_all}
use Rattle.s39_input.proofs.Runs.Causes.{not_done}

two_digits : (n : ℕ) → n ≤ 16 → length (decimal n) ≤ 2
two_digits n low = length-decimal-le 2 n (omega arith) (omega arith) (omega arith)

-- the most bytes of the line of a group
abbrev room : ℕ → ℕ
room g = length (decimal g) + (bytes_of (names_in_group g all_names) - 1) + 25

-- their sum
abbrev sum_of : (ℕ → ℕ) → List ℕ → ℕ
sum_of most [] = 0
sum_of most (x ∷ xs) = most x + sum_of most xs

all_rooms : sum_of room (range_with_len 0 most_groups) ≡ 1622
unfolding digits
all_rooms = refl

-- a group has 16 names
group_few : (g : ℕ) → g < most_groups → length (names_in_group g all_names) ≡ most_members
group_few g low =
    sym (get_or-map-range_with_len (λ k. length (names_in_group k all_names)) 0 most_groups g g 0 low (omega arith))
    ∙ get_or-map-range_with_len (λ k. most_members) 0 most_groups g g 0 low (omega arith)

-- the lines of all are no longer than the sum
lines_short : (f : ℕ → List ℕ) (most : ℕ → ℕ) (xs : List ℕ) → All (λ x. length (f x) ≤ most x) xs → length (flat_map f xs) ≤ sum_of most xs
lines_short f most [] each = omega arith
lines_short f most (x ∷ xs) each =
    omega (
      arith,
      length-append (f x) (flat_map f xs),
      All-head (λ x. length (f x) ≤ most x) x xs each,
      lines_short f most xs (All-tail (λ x. length (f x) ≤ most x) x xs each),
    )

length-group : (g n t q : List ℕ)
    → length (ended_line (codes "group " ++ g ++ codes " members " ++ n ++ codes " of " ++ t ++ 32 ∷ q)) ≡ length g + length n + length t + length q + 21
length-group g n t q =
    let a = codes "group " ++ g in
    let b = a ++ codes " members " in
    let d = b ++ n ++ codes " of " in
    omega (
      arith,
      length-append (d ++ t ++ 32 ∷ q) (10 ∷ []),
      length-append (d ++ t) (32 ∷ q),
      length-append d t,
      length-append (b ++ n) (codes " of "),
      length-append b n,
      length-append a (codes " members "),
      length-append (codes "group ") g,
    )

length-first : (c r : List ℕ) → length (ended_line (codes "groups " ++ c ++ codes " of " ++ r)) ≡ length c + length r + 12
length-first c r =
    let a = codes "groups " ++ c in
    omega (
      arith,
      length-append (a ++ codes " of " ++ r) (10 ∷ []),
      length-append (a ++ codes " of ") r,
      length-append a (codes " of "),
      length-append (codes "groups ") c,
    )

-- the first line, and those of the groups
whole_short : (first lines : List ℕ) (c r : ℕ) → length first ≡ c + r + 12 → c ≤ 2 → r ≤ 2 → length lines ≤ 1622
    → length (first ++ lines) ≤ longest_status
whole_short first lines c r is low small few = omega (arith, length-append first lines)

module _ (set : List ShareFields) (is : IsShareSet set) where
  are : AreNames (map name_of set)
  are = record {
    ascending = is.ascending;
    groups = All-map (λ name. name.0 < most_groups) name_of set
        (All-weaker IsShare (λ s. s.group_index < most_groups) (λ s share. share.group_index) set is.each);
    members = All-map (λ name. name.1 < most_members) name_of set
        (All-weaker IsShare (λ s. s.member_index < most_members) (λ s share. share.member_index) set is.each);
  }

  group_short : (g : ℕ) → g < most_groups → length (group_text (group_status_of set g)) ≤ room g
  group_short g low = by (find (is_in_group g) set) refl where
    by : (o : Option ShareFields) → find (is_in_group g) set ≡ o
        → length (group_text (option_map (λ threshold. record { group = g; threshold = threshold; names = names_in_group g (map name_of set) })
        (option_map (λ share. share.member_threshold) o))) ≤ room g
    by None none = omega arith
    by (Some share) found =
        let names = names_in_group g (map name_of set) in
        let part = names_in_group-sublist g (part_of_all (map name_of set) are) in
        let range = All-contains IsShare set share is.each (Contains-find (is_in_group g) set share found) in
        let count : length names ≤ 16 = let few = length-sublist part in let all = group_few g low in omega (arith, few, all) in
        omega (
          arith,
          length-group (decimal g) (decimal (length names)) (decimal share.member_threshold) (quorum_text names),
          two_digits (length names) count,
          two_digits share.member_threshold range.member_threshold_in_range,
          length-quorum_text names,
          bytes_of-sublist part,
        )

  lines_few : length (flat_map (λ g. group_text (group_status_of set g)) (range_with_len 0 most_groups)) ≤ 1622
  lines_few =
      subst (λ (n : ℕ). length (flat_map (λ g. group_text (group_status_of set g)) (range_with_len 0 most_groups)) ≤ n) all_rooms
      (lines_short (λ g. group_text (group_status_of set g)) room (range_with_len 0 most_groups)
      (All-weaker (λ g. g < most_groups) (λ g. length (group_text (group_status_of set g)) ≤ room g) group_short (range_with_len 0 most_groups)
      (range-below most_groups)))

  text_short : (status : Status) → status.complete ≤ 16 → status.required ≤ 16 → length (status_text set status) ≤ longest_status
  text_short status complete required =
      whole_short (first_line status) (flat_map (λ g. group_text (group_status_of set g)) (range_with_len 0 most_groups))
      (length (decimal status.complete)) (length (decimal status.required)) (length-first (decimal status.complete) (decimal status.required))
      (two_digits status.complete complete) (two_digits status.required required) lines_few

complete_few : (T : ℕ → Option ℕ) (names : Names) → length (complete_groups T names) ≤ 16
complete_few T names = let few = length-sublist (filter_kept (is_complete T names) (range_with_len 0 most_groups)) in omega (arith, few)

written_short : (set : List ShareFields) → IsShareSet set → (status : Status) → status_of set ≡ Some status → length (status_text set status) ≤ longest_status
written_short [] is status none = absurd (let bad : None ≡ Some status = none in cc)
written_short (share ∷ shares) is status some =
    let first = All-head IsShare share shares is.each in
    let set = share ∷ shares in
    let same = some_same _ status some in
    let complete : length (complete_groups (member_threshold_of set) (map name_of set)) ≡ status.complete = ap (λ (s : Status). s.complete) same in
    let required : share.group_threshold ≡ status.required = ap (λ (s : Status). s.required) same in
    let within = first.threshold_in_count in
    let count = first.group_count in
    text_short set is status (omega (arith, complete, complete_few (member_threshold_of set) (map name_of set))) (omega (arith, required, within, count))

pub set_status_short : (set : List ShareFields) → IsShareSet set → (text : List ℕ) (status : Status) → IsStatusOf set text (Ok status)
    → length text ≤ longest_status
set_status_short set is_set text status is = by (status_of set) refl is where
  by : (o : Option Status) → status_of set ≡ o → (text, Ok status) ≡ status_written set o → length text ≤ longest_status
  by None none nothing = absurd (not_done {T = Status} [] text (fault_of (Lack NoShares)) status (sym nothing))
  by (Some other) some all =
      let text_is : text ≡ status_text set other = ap (λ (w : List ℕ × Result Status Fault). w.0) all in
      omega (arith, ap length text_is, written_short set is_set other some)

pub status_short : ((input : Input) (set : List ShareFields) → IsReadAs input (Ok set) → IsShareSet set) → (input : Input) (text : List ℕ) (status : Status)
    → IsStatusOutput input text (Ok status) → length text ≤ longest_status
status_short share_sets input text status (refuses stop read is) = absurd (not_done {T = Status} [] text (fault_of_stop stop) status (sym is))
status_short share_sets input text status (gives set read is) = set_status_short set (share_sets input set read) text status is
