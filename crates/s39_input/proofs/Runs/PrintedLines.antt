-- The printed forms of shares, a line for each: how many lines they have, that they exist, and that there is one.
use Rattle.std.proofs.Common.{◌≡◌, ◌⊎◌, ℕ, suc, false, List, [], ◌∷◌, ◌++◌, length, All, refl, sym, ap, ap₂, ◌∙◌, append-nil, arith, inl, inr}
use Rattle.std.specs.List.{AllZip, flat_map}
use Rattle.std.proofs.lemmas.Bool.Decides.{nat_tests}
use Rattle.std.proofs.lemmas.List.Concat.{flat_map-append}
use Rattle.std.proofs.lemmas.List.Elements.{All-nil, All-cons, All-head, All-tail, All-weaker}
use Rattle.s39_words.specs.declared.ShareFields.{ShareFields}
use Rattle.s39_words.specs.Printing.{IsPrinted}
use Rattle.s39_words.specs.Share.{IsShare}
use Rattle.s39_words.specs.WordList.{IsLetter}
use Rattle.s39_input.specs.Input.{ended_line, is_line_feed, lines_in}
use Rattle.s39_input.specs.Create.{ArePrintedLines}
use Rattle.s39_input.proofs.Texts.LineFeeds.{lines_counted}

no_line_feed : (byte : ℕ) → IsLetter byte ⊎ (byte ≡ 32) → is_line_feed byte ≡ false
no_line_feed byte (inl letter) = grind (arith, nat_tests)
no_line_feed byte (inr space) = grind (arith, nat_tests)

pub as_many : (lines : List (List ℕ)) (shares : List ShareFields) → AllZip IsPrinted lines shares → length lines ≡ length shares
as_many [] [] printed = refl
as_many [] (share ∷ shares) printed = absurd printed
as_many (line ∷ lines) [] printed = absurd printed
as_many (line ∷ lines) (share ∷ shares) printed = ap suc (as_many lines shares printed.1)

-- a printed form has letters and spaces alone
module _ (letters : (share : ShareFields) (text : List ℕ) → IsPrinted text share → All (λ byte. IsLetter byte ⊎ (byte ≡ 32)) text) where
  pub without_line_feeds : (lines : List (List ℕ)) (shares : List ShareFields) → AllZip IsPrinted lines shares
      → All (All (λ byte. is_line_feed byte ≡ false)) lines
  without_line_feeds [] shares printed = All-nil (All (λ byte. is_line_feed byte ≡ false))
  without_line_feeds (line ∷ lines) [] printed = absurd printed
  without_line_feeds (line ∷ lines) (share ∷ shares) printed =
      All-cons (All (λ byte. is_line_feed byte ≡ false)) line lines
      (All-weaker (λ byte. IsLetter byte ⊎ (byte ≡ 32)) (λ byte. is_line_feed byte ≡ false) no_line_feed line (letters share line printed.0))
      (without_line_feeds lines shares printed.1)

  -- so each is one line
  pub printed_lines : (shares : List ShareFields) (text : List ℕ) → ArePrintedLines shares text → lines_in text ≡ length shares
  printed_lines shares text p =
      ap lines_in p.text_is ∙ lines_counted p.lines (without_line_feeds p.lines shares p.printed) ∙ as_many p.lines shares p.printed

-- ---- a line for each share

AllZip-append : {A B : Type 0} (R : A → B → Type 0) (xs xs' : List A) (ys ys' : List B) → AllZip R xs ys → AllZip R xs' ys' → AllZip R (xs ++ xs') (ys ++ ys')
AllZip-append R [] xs' [] ys' all more = more
AllZip-append R [] xs' (y ∷ ys) ys' all more = absurd all
AllZip-append R (x ∷ xs) xs' [] ys' all more = absurd all
AllZip-append R (x ∷ xs) xs' (y ∷ ys) ys' all more = (all.0, AllZip-append R xs xs' ys ys' all.1 more)

pub printed_none : ArePrintedLines [] []
printed_none = record { lines = []; printed = tt; text_is = refl }

pub printed_both : (shares more : List ShareFields) (text rest : List ℕ) → ArePrintedLines shares text → ArePrintedLines more rest
    → ArePrintedLines (shares ++ more) (text ++ rest)
printed_both shares more text rest p q = record {
  lines = p.lines ++ q.lines;
  printed = AllZip-append IsPrinted p.lines q.lines shares more p.printed q.printed;
  text_is = ap₂ (λ (a b : List ℕ). a ++ b) p.text_is q.text_is ∙ sym (flat_map-append ended_line p.lines q.lines);
}

pub printed_one : (share : ShareFields) (line : List ℕ) → IsPrinted line share → ArePrintedLines (share ∷ []) (ended_line line)
printed_one share line is = record { lines = line ∷ []; printed = (is, tt); text_is = sym (append-nil (ended_line line)) }

-- shares have printed forms
pub printed_all : ((share : ShareFields) → IsShare share → (text : List ℕ) × IsPrinted text share) → (shares : List ShareFields) → All IsShare shares
    → (text : List ℕ) × ArePrintedLines shares text
printed_all every [] each = ([], printed_none)
printed_all every (share ∷ shares) each =
    let (line, is) = every share (All-head IsShare share shares each) in
    let (rest, others) = printed_all every shares (All-tail IsShare share shares each) in
    (ended_line line ++ rest, printed_both (share ∷ []) shares (ended_line line) rest (printed_one share line is) others)

module _ (one_printed_form : (share : ShareFields) (text other : List ℕ) → IsPrinted text share → IsPrinted other share → text ≡ other) where
  pub lines_once : (shares : List ShareFields) (lines others : List (List ℕ)) → AllZip IsPrinted lines shares → AllZip IsPrinted others shares → lines ≡ others
  lines_once [] [] [] p q = refl
  lines_once [] [] (o ∷ os) p q = absurd q
  lines_once [] (l ∷ ls) others p q = absurd p
  lines_once (s ∷ ss) [] others p q = absurd p
  lines_once (s ∷ ss) (l ∷ ls) [] p q = absurd q
  lines_once (s ∷ ss) (l ∷ ls) (o ∷ os) p q =
      ap₂ (λ (x : List ℕ) (xs : List (List ℕ)). x ∷ xs) (one_printed_form s l o p.0 q.0) (lines_once ss ls os p.1 q.1)

  -- shares have one text
  pub text_once : (shares : List ShareFields) (text other : List ℕ) → ArePrintedLines shares text → ArePrintedLines shares other → text ≡ other
  text_once shares text other p q = p.text_is ∙ ap (flat_map ended_line) (lines_once shares p.lines q.lines p.printed q.printed) ∙ sym q.text_is
