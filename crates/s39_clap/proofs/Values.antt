-- The values of arguments.
use Rattle.std.proofs.Common.{◌≡◌, ◌⊎◌, ◌∙◌, ◌||◌, ◌<◌, ◌≤◌, ◌^◌, ℕ, Bool, cond, codes, true, false, not, inl, inr, refl, sym, ap, subst, List, [], ◌∷◌}
use Rattle.std.proofs.Common.{filter, Option, Some, Result, Ok, true≢false, pos}
use Rattle.std.specs.Prelude.{find, option_and_then, option_map, slice_get}
use Rattle.std.specs.List.{list_all}
use Rattle.std.specs.Str.{bytes_eq}
use Rattle.std.specs.Str.Parse.{ParsesUnsigned, digits_value, without_leading_plus}
use Rattle.std.proofs.lemmas.Slice.Eq.{bytes_eq-Decides}
use Rattle.clap.specs.Facts.{parser_of_value}
use Rattle.clap.specs.Lexer.{without_minus}
use Rattle.clap.specs.Matches.{ReadsOne}
use Rattle.clap.specs.Values.{IsSignedIn, read_as, reading_of}
use Rattle.clap.specs.ValueTests.{accepts}
use Rattle.clap.specs.Walk.{Row, Rule, Text, has_row, one_of, reading_by, row_text}
use Rattle.clap.specs.Takes.{value_passes, values_pass}
use Rattle.clap.specs.declared.builder.value_parser.ValueParser.TheVariants as vp
use Rattle.clap.proofs.CallerReads.{signed_reads}
use Rattle.clap.proofs.ValueTestLemmas.{accepts-Accepts}
use Rattle.clap.proofs.WalkLemmas.{both}
use Rattle.s39_clap.specs.Found.{AllFit, Fits, FitsOne, HasNumber, HasValue, IsFilled, IsOnly, has_some}

-- ---- the only argument with an id

head_is : {X : Type 0} (x y : X) (xs ys : List X) → x ∷ xs ≡ y ∷ ys → (x ≡ y) × (xs ≡ ys)
head_is x y xs ys same = (cc, cc)

none_fits : (id : Text) (rules : List Rule) (r : Row) → filter (λ b. bytes_eq b.id id) rules ≡ [] → bytes_eq r.id id ≡ true → FitsOne rules r → ⊥
none_fits id [] r none same fits = fits
none_fits id (b ∷ rest) r none same fits = go (bytes_eq b.id id) refl none (none_fits id rest r) fits
  where
    go : (t : Bool) → bytes_eq b.id id ≡ t → cond t (b ∷ filter (λ x. bytes_eq x.id id) rest) (filter (λ x. bytes_eq x.id id) rest) ≡ []
        → (filter (λ x. bytes_eq x.id id) rest ≡ [] → bytes_eq r.id id ≡ true → FitsOne rest r → ⊥) → Fits b r ⊎ FitsOne rest r → ⊥
    go true is none later fits = cc
    go false is none later (inl f) =
        let key : r.id ≡ id = (bytes_eq-Decides r.id id).0 same in
        true≢false (sym f.id ∙ (ap (bytes_eq b.id) key ∙ is))
    go false is none later (inr f) = later none same f

-- a row with the id fits that argument
only_fits : (id : Text) (a : Rule) (rules : List Rule) (r : Row) → IsOnly a id rules → bytes_eq r.id id ≡ true → FitsOne rules r → Fits a r
only_fits id a [] r only same fits = absurd fits
only_fits id a (b ∷ rest) r only same fits = go (bytes_eq b.id id) refl only (only_fits id a rest r) fits
  where
    go : (t : Bool) → bytes_eq b.id id ≡ t → cond t (b ∷ filter (λ x. bytes_eq x.id id) rest) (filter (λ x. bytes_eq x.id id) rest) ≡ a ∷ []
        → (IsOnly a id rest → bytes_eq r.id id ≡ true → FitsOne rest r → Fits a r) → Fits b r ⊎ FitsOne rest r → Fits a r
    go true is only later (inl f) = subst (λ x. Fits x r) (head_is _ _ _ _ only).0 f
    go true is only later (inr f) = absurd (none_fits id rest r (head_is _ _ _ _ only).1 same f)
    go false is only later (inl f) =
        let key : r.id ≡ id = (bytes_eq-Decides r.id id).0 same in
        absurd (true≢false (sym f.id ∙ (ap (bytes_eq b.id) key ∙ is)))
    go false is only later (inr f) = later only same f

-- what holds of all arguments holds of it, and it has the id
only_passes : (id : Text) (a : Rule) (rules : List Rule) (test : Rule → Bool) → IsOnly a id rules → list_all test rules ≡ true → (test a ≡ true) ×
    (bytes_eq a.id id ≡ true)
only_passes id a [] test only all = cc
only_passes id a (b ∷ rest) test only all =
    let parts = both (test b) (list_all test rest) all in
    go (bytes_eq b.id id) refl only parts.0 (λ o. only_passes id a rest test o parts.1)
  where
    go : (t : Bool) → bytes_eq b.id id ≡ t → cond t (b ∷ filter (λ x. bytes_eq x.id id) rest) (filter (λ x. bytes_eq x.id id) rest) ≡ a ∷ []
        → test b ≡ true → (IsOnly a id rest → (test a ≡ true) × (bytes_eq a.id id ≡ true)) → (test a ≡ true) × (bytes_eq a.id id ≡ true)
    go true is only here later =
        let same = (head_is _ _ _ _ only).0 in
        (subst (λ x. test x ≡ true) same here, subst (λ x. bytes_eq x.id id ≡ true) same is)
    go false is only here later = later only

-- ---- its values

row_value : (rules : List Rule) (rows : List Row) (a : Rule) (id : Text) → IsOnly a id rules → AllFit rules rows → has_row id rows ≡ true
    → (text : Text) × HasValue a id rows text
row_value rules [] a id only fits has = absurd (true≢false (sym has))
row_value rules (r ∷ rest) a id only fits has = go (bytes_eq r.id id) refl has (row_value rules rest a id only fits.1)
  where
    first : (values : List Text) → has_some values ≡ true → values_pass a values ≡ true → (text : Text) × (slice_get values 0 ≡ Some text) ×
        (value_passes a text ≡ true)
    first [] some passes = absurd (true≢false (sym some))
    first (v ∷ vs) some passes = (v, refl, (both (value_passes a v) _ passes).0)

    here : Fits a r → (text : Text) × (slice_get r.values 0 ≡ Some text) × (row_text r ≡ Some (read_as (reading_by a) text)) × (value_passes a text ≡ true)
    here f =
        let one = first r.values f.some f.passes in
        (one.0, one.1, (λ i. option_map (read_as (f.reading i)) (one.1 i)), one.2)

    go : (t : Bool) → bytes_eq r.id id ≡ t → (t || has_row id rest) ≡ true → (has_row id rest ≡ true → (text : Text) × HasValue a id rest text)
        → (text : Text) × HasValue a id (r ∷ rest) text
    go true is has later =
        let one = here (only_fits id a rules r only is fits.0) in
        let found : find (λ x. bytes_eq x.id id) (r ∷ rest) ≡ Some r = ap (λ t. cond t (Some r) (find (λ x. bytes_eq x.id id) rest)) is in (
          one.0,
          record {
            first = ap (option_and_then (λ x. slice_get x.values 0)) found ∙ one.1;
            read = ap (option_and_then row_text) found
                ∙ one.2;
            passes = one.3;
          },
        )
    go false is has later =
        let value = later has in
        let found : find (λ x. bytes_eq x.id id) (r ∷ rest) ≡ find (λ x. bytes_eq x.id id) rest = ap
        (λ t. cond t (Some r) (find (λ x. bytes_eq x.id id) rest)) is in (
          value.0,
          record {
            first = ap (option_and_then (λ x. slice_get x.values 0)) found ∙ value.1.first;
            read = ap (option_and_then row_text) found ∙ value.1.read;
            passes = value.1.passes;
          },
        )

-- an argument that is required or has a default has a value
pub has_value : (rules : List Rule) (rows : List Row) (a : Rule) (id : Text) → IsOnly a id rules → (a.required || has_some a.defaults) ≡ true
    → IsFilled rules rows
    → (text : Text) × HasValue a id rows text
has_value rules rows a id only wanted filled =
    let present = only_passes id a rules (λ x. not (x.required || has_some x.defaults) || has_row x.id rows) only filled.present in
    let key : a.id ≡ id = (bytes_eq-Decides a.id id).0 present.1 in
    row_value rules rows a id only filled.fits (ap (λ i. has_row i rows) (sym key) ∙ found (a.required || has_some a.defaults) wanted present.0)
  where
    found : (wants : Bool) → wants ≡ true → (not wants || has_row a.id rows) ≡ true → has_row a.id rows ≡ true
    found true is has = has
    found false is has = absurd (true≢false (sym is))

-- a flag is said or isn't
pub flag_said : (rules : List Rule) (rows : List Row) (a : Rule) (id : Text) → IsOnly a id rules → (a.required || has_some a.defaults) ≡ true
    → a.parser ≡ Some vp.Bool
    → IsFilled rules rows → (one_of id rows ≡ Some (codes "true")) ⊎ (one_of id rows ≡ Some (codes "false"))
flag_said rules rows a id only wanted parser filled =
    let value = has_value rules rows a id only wanted filled in
    let text = value.0 in
    let is = ap parser_of_value parser in
    let read : one_of id rows ≡ Some text = value.1.read ∙ ap (λ p. Some (read_as (reading_of p) text)) is in
    go text read (bytes_eq text (codes "true")) (bytes_eq text (codes "false")) refl refl (subst (λ p. accepts a.ignore_case p text ≡ true) is value.1.passes)
  where
    go : (text : Text) → one_of id rows ≡ Some text → (t f : Bool) → bytes_eq text (codes "true") ≡ t → bytes_eq text (codes "false") ≡ f → (t || f) ≡ true
        → (one_of id rows ≡ Some (codes "true")) ⊎ (one_of id rows ≡ Some (codes "false"))
    go text read true f is_true is_false passes = inl (read ∙ ap (λ t. Some t) ((bytes_eq-Decides text (codes "true")).0 is_true))
    go text read false true is_true is_false passes = inr (read ∙ ap (λ t. Some t) ((bytes_eq-Decides text (codes "false")).0 is_false))
    go text read false false is_true is_false passes = absurd (true≢false (sym passes))

-- a number in a range, as a getter reads it
pub number_read : (E : Type 0) (G : Text → Result ℕ E → Type 0) (bits low high : ℕ) (rules : List Rule) (rows : List Row) (a : Rule) (id : Text)
    (got : Option ℕ)
    → IsOnly a id rules → (a.required || has_some a.defaults) ≡ true → a.parser ≡ Some (vp.Signed (pos low) (pos high)) → IsFilled rules rows
    → ((u : Text) (x : Result ℕ E) → G u x → ParsesUnsigned bits 10 u x) → high < 2 ^ bits
    → ((u : Text) → one_of id rows ≡ Some u → ReadsOne G u got)
    → (n : ℕ) × (got ≡ Some n) × (low ≤ n) × (n ≤ high) × HasNumber id rows n
number_read E G bits low high rules rows a id got only wanted parser filled parses fits reads =
    let value = has_value rules rows a id only wanted filled in
    let text = value.0 in
    let is = ap parser_of_value parser in
    let read : one_of id rows ≡ Some (without_minus text) = value.1.read ∙ ap (λ p. Some (read_as (reading_of p) text)) is in
    let passes : IsSignedIn (pos low) (pos high) text = accepts-Accepts a.ignore_case (vp.Signed (pos low) (pos high)) text
    (subst (λ p. accepts a.ignore_case p text ≡ true) is value.1.passes) in
    let one = reads (without_minus text) read in
    let n = signed_reads E G bits low high text got one parses fits passes in
    let number = parses (without_minus text) (Ok n.0) (subst (ReadsOne G (without_minus text)) n.1 one) in
    (n.0, n.1, n.2, n.3, ap (option_map (λ t. digits_value 10 (without_leading_plus t))) read ∙ ap (λ k. Some k) (sym number.1))
