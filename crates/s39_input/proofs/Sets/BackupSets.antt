-- Mnemonics of a created backup are read as a set of its shares.
use Rattle.std.proofs.Common.{◌≡◌, ℕ, suc, true, List, [], ◌∷◌, All, Contains, Option, Some, None, Result, Ok, inl, inr, refl, sym, ap, ◌∙◌, subst}
use Rattle.std.specs.Prelude.{IfSome}
use Rattle.std.proofs.lemmas.List.Elements.{All-nil, All-head, All-tail, All-contains, All-contains_itself}
use Rattle.s39_lists.proofs.Sublists.{each}
use Rattle.s39_lists.specs.Each.{and_then}
use Rattle.s39_words.specs.declared.ShareFields.{ShareFields}
use Rattle.s39_set.specs.ShareSet.{IsShareSet, refusal_of}
use Rattle.s39_backup.specs.Created.{AreOfBackup}
use Rattle.s39_input.specs.declared.fault.LineRefusal.{LineRefusal}
use Rattle.s39_input.specs.declared.fault.Stop.{Stop}
use Rattle.s39_input.specs.Input.{Input, lines_of}
use Rattle.s39_input.specs.Lines.{Holds, at_line, led}
use Rattle.s39_input.specs.Accepted.{IsReadAs, read_as, with_share, with_held, with_line, joined}
use Rattle.s39_input.specs.OfBackup.{HoldsNothingOrOneOf, HoldsMnemonicsOf}
use Rattle.s39_input.proofs.Sets.Collected.{held_share_is_share, no_shares}
use Rattle.s39_input.proofs.Sets.WithShare.{grows}

-- the created shares are of the backup
unfoldable pub of_backup : (passphrase secret : List ℕ) (input : Input) (mnemonics : HoldsMnemonicsOf passphrase secret input) (set : List ShareFields)
    → All (Contains mnemonics.shares) set → AreOfBackup set passphrase secret
of_backup passphrase secret input mnemonics set belong = record {
  group_threshold = mnemonics.group_threshold;
  groups = mnemonics.groups;
  options = mnemonics.options;
  random = mnemonics.random;
  shares = mnemonics.shares;
  is_plan = mnemonics.is_plan;
  created = mnemonics.created.3;
  belong = belong;
}

module _ (agree : (set earlier : List ShareFields) (share : ShareFields) (passphrase secret : List ℕ) → AreOfBackup set passphrase secret
    → All (Contains set) earlier → Contains set share → refusal_of earlier share ≡ None)
    (passphrase secret : List ℕ) (input : Input) (mnemonics : HoldsMnemonicsOf passphrase secret input) where
  abbrev created : List ShareFields
  created = mnemonics.shares

  -- lines lead on to some of the shares
  abbrev LeadOn : Result (List ShareFields) (Stop LineRefusal) → Type 0
  LeadOn led = (more : List ShareFields) × (led ≡ Ok more) × All (Contains created) more

  leads_on : (n : ℕ) (set : List ShareFields) (lines : List (List ℕ)) → IsShareSet set → All (Contains created) set
      → All (HoldsNothingOrOneOf created) lines → LeadOn (led with_line true n set lines)
  leads_on n set [] is belong lines_are = (set, refl, belong)
  leads_on n set (line ∷ lines) is belong lines_are =
      let (held, holds, one) = All-head (HoldsNothingOrOneOf created) line lines lines_are in
      by (λ next valid some. leads_on (suc n) next lines valid some (All-tail (HoldsNothingOrOneOf created) line lines lines_are)) held holds one
    where
      goes_on : ((next : List ShareFields) → IsShareSet next → All (Contains created) next → LeadOn (led with_line true (suc n) next lines))
          → (next : List ShareFields) → with_line set line ≡ Ok next → IsShareSet next → All (Contains created) next
          → LeadOn (led with_line true n set (line ∷ lines))
      goes_on others next taken valid some =
          subst (λ (r : Result (List ShareFields) LineRefusal). LeadOn (and_then (λ t. led with_line true (suc n) t lines) (at_line n r))) (sym taken)
          (others next valid some)

      by : ((next : List ShareFields) → IsShareSet next → All (Contains created) next → LeadOn (led with_line true (suc n) next lines))
          → (held : Option ShareFields) → Holds line held → IfSome held (Contains created) → LeadOn (led with_line true n set (line ∷ lines))
      by others None holds one = goes_on others set (ap (and_then (with_held set)) holds) is belong
      by others (Some share) holds one =
          let joins = agree created set share passphrase secret (of_backup passphrase secret input mnemonics created (All-contains_itself created))
          belong one in
          let grown = grows set share is (held_share_is_share line share holds) joins in
          goes_on others (with_share share set) (ap (and_then (with_held set)) holds ∙ ap (joined set share) joins) grown.is_set
          (each (Contains created) (with_share share set) (λ s has. elim (grown.only s has) [
            | inl before ↦ All-contains (Contains created) set s belong before
            | inr same ↦ subst (Contains created) same one
          ]))

  pub read_as_set : (set : List ShareFields) × IsReadAs input (Ok set) × All (Contains mnemonics.shares) set
  unfolding read_as
  read_as_set =
      let (set, leads, belong) = leads_on 0 [] (lines_of input) no_shares (All-nil (Contains created)) mnemonics.lines in
      (set, ap (λ b. led with_line b 0 [] (lines_of input)) mnemonics.ended ∙ leads, belong)
