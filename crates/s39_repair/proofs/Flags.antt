-- The mnemonics that fit, from one for each value of the flag. `Fit` says which mnemonics fit.
use Rattle.std.proofs.Common.{◌≡◌, ◌≢◌, ℕ, ◌⊎◌, inl, inr, Bool, true, false, List, Some, None, Ordering, refl, sym, ap, subst, ◌∙◌, ⊎_elim}
use Rattle.std.specs.Prelude.{if◌then◌else◌}
use Rattle.std.specs.Cmp.Lexicographic.{slice_cmp}
use Rattle.std.specs.Ordering.{nat_cmp, is_lt, ordering_reverse}
use Rattle.std.specs.declared.cmp.Ordering.TheVariants.{Less, Equal, Greater}
use Rattle.std.proofs.lemmas.Bool.{false≢true}
use Rattle.std.proofs.lemmas.Cmp.{nat_list_cmp_total}
use Rattle.s39_words.specs.declared.share.ShareFields.{ShareFields}
use Rattle.s39_words.specs.Spelling.{Spells}
use Rattle.s39_words.proofs.OneReading.{same_share}
use Rattle.s39_words.proofs.Prefixes.{same_from_equal}
use Rattle.s39_repair.specs.Answer.{AreAll, ComesBefore}
use Rattle.s39_repair.specs.Marks.{spelling}

pub plain_or_not : (b : Bool) → (b ≡ false) ⊎ (b ≡ true)
plain_or_not true = inr refl
plain_or_not false = inl refl

pub extendable_or_not : (b : Bool) → (b ≡ true) ⊎ (b ≡ false)
extendable_or_not true = inl refl
extendable_or_not false = inr refl

module _ (Fit : List ℕ → ShareFields → Type 0) where
  -- no mnemonic with this flag fits
  abbrev pub NoneWith : Bool → Type 0
  NoneWith flag = (mnemonic : List ℕ) (share : ShareFields) → Fit mnemonic share → share.extendable ≡ flag → ⊥

  -- only one
  abbrev pub OnlyWith : Bool → List ℕ → Type 0
  OnlyWith flag words = (mnemonic : List ℕ) (share : ShareFields) → Fit mnemonic share → share.extendable ≡ flag → words ≡ mnemonic

  pub none_fits : NoneWith false → NoneWith true → (mnemonic : List ℕ) (share : ShareFields) → Fit mnemonic share → ⊥
  none_fits none none' mnemonic share fits = ⊎_elim (none mnemonic share fits) (none' mnemonic share fits) (plain_or_not share.extendable)

  pub one_fits : (words : List ℕ) (share : ShareFields) (flag other : Bool) → Fit words share → OnlyWith flag words → NoneWith other
      → ((b : Bool) → (b ≡ flag) ⊎ (b ≡ other)) → AreAll Fit (record { first = share; second = None })
  one_fits words share flag other fits only none cases = record {
    mnemonic = words;
    first = fits;
    others = λ mnemonic found is. ⊎_elim (λ e. sym (only mnemonic found is e)) (λ e. absurd (none mnemonic found is e)) (cases found.extendable);
  }

  two_fit : (words last : List ℕ) (share second : ShareFields) (flag other : Bool) → Fit words share → Fit last second
      → OnlyWith flag words → OnlyWith other last → ((b : Bool) → (b ≡ flag) ⊎ (b ≡ other)) → ComesBefore words last
      → AreAll Fit (record { first = share; second = Some second })
  two_fit words last share second flag other fits fits' only only' cases before = record {
    mnemonic = words;
    first = fits;
    others = (
      last,
      fits',
      before,
      λ mnemonic found is. ⊎_elim (λ e. inl (sym (only mnemonic found is e))) (λ e. inr (sym (only' mnemonic found is e))) (cases found.extendable),
    );
  }

  reversed : (o : Ordering) → is_lt o ≡ false → o ≢ Equal → ordering_reverse o ≡ Less
  reversed Less low other = absurd (false≢true (sym low))
  reversed Equal low other = absurd (other refl)
  reversed Greater low other = refl

  less : (o : Ordering) → is_lt o ≡ true → o ≡ Less
  less Less h = refl
  less Equal h = absurd (false≢true h)
  less Greater h = absurd (false≢true h)

  apart : (words last : List ℕ) (share second : ShareFields) → Spells (spelling words) share → Spells (spelling last) second
      → share.extendable ≡ false → second.extendable ≡ true → words ≢ last
  apart words last share second spells spells' plain extendable same =
      let one : share ≡ second = same_share (spelling last) share second (subst (λ ws. Spells (spelling ws) share) same spells) spells' in
      false≢true (sym plain ∙ ap (λ (s : ShareFields). s.extendable) one ∙ extendable)

  pub both_fit : ((ws : List ℕ) (s : ShareFields) → Fit ws s → Spells (spelling ws) s)
      → (words last : List ℕ) (share second : ShareFields) → Fit words share → Fit last second
      → share.extendable ≡ false → second.extendable ≡ true → OnlyWith false words → OnlyWith true last
      → AreAll Fit (if is_lt (slice_cmp nat_cmp words last) then record { first = share; second = Some second }
      else record { first = second; second = Some share })
  both_fit spells words last share second fits fits' plain extendable only only' =
      let o = slice_cmp nat_cmp words last in
      (elim (is_lt o) as (λ b. is_lt o ≡ b → AreAll Fit (if b then record { first = share; second = Some second }
      else record { first = second; second = Some share })) [
        | true ↦ λ low. two_fit words last share second false true fits fits' only only' plain_or_not (less o low)
        | false ↦ λ high.
            let other : o ≢ Equal = λ e.
            apart words last share second (spells words share fits) (spells last second fits') plain extendable (same_from_equal words last e) in
            two_fit last words second share true false fits' fits only' only extendable_or_not
            (nat_list_cmp_total.antisymm last words ∙ reversed o high other)
      ]) refl
