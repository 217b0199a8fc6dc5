-- What a reader gives byte by byte, and in a part.
use Rattle.std.proofs.Common.{◌≡◌, ◌≢◌, ◌∙◌, ◌++◌, ◌≤◌, ◌<◌, ℕ, List, [], ◌∷◌, Option, Some, None, Result, Ok, Err, ap, append-nil, append_assoc, arith, length, IfSome, refl, slice_index_or, subst, sym, take}
use Rattle.std.proofs.Common.{◌+◌, ◌-◌, Bool, true, false, cond, length-append, ⊎_elim}
use Rattle.std.proofs.lemmas.Bool.{cases_lt}
use Rattle.std.proofs.KnownBytes.{Consumes-kept, Consumes-trans, Keeps-trans}
use Rattle.std.specs.Io.KnownBytes.{Consumes, IsAtEnd, Keeps, ReadConsumes}
use Rattle.std.specs.Io.BufRead.{ends_with_byte, strip_last, take_through}
use Rattle.std.proofs.BufReadLemmas.{take_through-append}
use Rattle.std.proofs.lemmas.List.{length-take-le, take_all, take_at}
use Rattle.s39_words.specs.declared.word_error.WordError.{WordError}
use Rattle.s39_words.specs.Reading.{reading}
use Rattle.s39_cli.specs.declared.values.BadValue.TheVariants.{TooLong, Mnemonic}
use Rattle.s39_cli.specs.Values.{HoldsBad, IsBad, IsBegunPart, IsMnemonic, IsOpen, IsPart, IsValueIn, TakesByte, part, without_line_end}
use Rattle.s39_cli.specs.declared.values.Until.{Until}
use Rattle.s39_cli.specs.declared.values.Until.TheVariants.{End, LineEnd}

kept_of_none : (a b : Option (List ℕ)) → Consumes a b [] → Keeps a b
kept_of_none None b none = tt
kept_of_none (Some xs) None none = absurd none
kept_of_none (Some xs) (Some ys) none = sym none

Consumes-after_kept : (a b c : Option (List ℕ)) (bs : List ℕ) → Keeps a b → Consumes b c bs → Consumes a c bs
Consumes-after_kept None b c bs kept read = tt
Consumes-after_kept (Some xs) None c bs kept read = absurd kept
Consumes-after_kept (Some xs) (Some ys) None bs kept read = absurd read
Consumes-after_kept (Some xs) (Some ys) (Some zs) bs kept read = sym kept ∙ read

-- a read gives no byte at the end
pub no_byte : {E : Type 0} (a b c : Option (List ℕ)) (r : Result ℕ E) (n : ℕ) (buf : List ℕ) → Keeps a b → ReadConsumes b c r buf → r ≡ Ok n → n ≡ 0
    → length buf ≡ 1 → TakesByte a c None
no_byte {E} a b c r n buf kept read is none one =
    let at : ReadConsumes {E = E} b c (Ok n) buf = subst (λ (s : Result ℕ E). ReadConsumes b c s buf) is read in
    (Keeps-trans a b c kept (kept_of_none b c (subst (λ k. Consumes b c (take k buf)) none at.0)), at.1 none (omega (arith, one)))

-- or else the one that there is room for
pub one_byte : (a b c : Option (List ℕ)) (n : ℕ) (buf : List ℕ) → Keeps a b → Consumes b c (take n buf) → n ≤ length buf → n ≢ 0 → length buf ≡ 1
    → TakesByte a c (Some (slice_index_or buf 0 0))
one_byte a b c n [] kept read within some one = cc
one_byte a b c n (x ∷ []) kept read within some one =
    let single : n ≡ 1 = omega (arith, within, some) in
    Consumes-after_kept a b c (x ∷ []) kept (subst (λ k. Consumes b c (take k (x ∷ []))) single read)
one_byte a b c n (x ∷ y ∷ xs) kept read within some one = cc

-- what was read of a part that hasn't ended stands before the rest of it
part_behind : (until : Until) (bytes rest : List ℕ) → IsOpen until bytes → part until (bytes ++ rest) ≡ bytes ++ part until rest
part_behind End bytes rest unended = refl
part_behind LineEnd bytes rest unended = take_through-append 10 bytes rest unended

-- what is so of all that a reader tells
of_told : (a b : Option (List ℕ)) (bytes : List ℕ) (P : List ℕ → Type 0) → Consumes a b bytes → ((rest : List ℕ) → b ≡ Some rest → P (bytes ++ rest))
    → IfSome a P
of_told None b bytes P read is = tt
of_told (Some known) None bytes P read is = absurd read
of_told (Some known) (Some rest) bytes P read is = subst P (sym read) (is rest refl)

module _ (until : Until) (room count : ℕ) (told : Option (List ℕ)) (bytes : List ℕ) where
  -- as much of the part as there is room for
  pub part_full : (left : Option (List ℕ)) → IsBegunPart until count told left bytes → count ≡ room → IsPart until room told left bytes
  part_full left begun full = record {
    read = begun.read;
    all = of_told told left bytes (λ known. bytes ≡ take room (part until known)) begun.read (λ rest _. sym
        (ap (take room) (part_behind until bytes rest begun.unended) ∙ take_at bytes (part until rest) room (begun.counted ∙ full)));
    fits = omega (arith, begun.counted, full);
  }

  -- all of it, at the end
  pub part_at_end : (now left : Option (List ℕ)) → IsBegunPart until count told now bytes → count ≤ room → TakesByte now left None
      → IsPart until room told left bytes
  part_at_end now left begun within none =
      let read = Consumes-kept told now left bytes begun.read none.0 in
      record {
        read = read;
        all = of_told told left bytes (λ known. bytes ≡ take room (part until known)) read (λ rest is. sym
            (ap (λ ending. take room (part until (bytes ++ ending))) (subst IsAtEnd is none.1) ∙ ap (take room) (whole until begun.unended)
            ∙ take_all room bytes (omega (arith, begun.counted, within))));
        fits = omega (arith, begun.counted, within);
      }
    where
      whole : (u : Until) → IsOpen u bytes → part u (bytes ++ []) ≡ bytes
      whole End unended = append-nil bytes
      whole LineEnd unended = take_through-append 10 bytes [] unended ∙ append-nil bytes

-- the first line, with its end
line_part : (room count : ℕ) (told now left : Option (List ℕ)) (bytes : List ℕ) (byte : ℕ) → IsBegunPart LineEnd count told now bytes → count < room
    → TakesByte now left (Some byte) → byte ≡ 10 → IsPart LineEnd room told left (bytes ++ byte ∷ [])
line_part room count told now left bytes byte begun within taken is =
    let read = Consumes-trans told now left bytes (byte ∷ []) begun.read taken in
    let line = bytes ++ byte ∷ [] in
    let fits : length line ≤ room = omega (arith, length-append bytes (byte ∷ []), begun.counted, within) in
    record {
      read = read;
      all = of_told told left line (λ known. line ≡ take room (part LineEnd known)) read (λ rest _. sym
          (ap (λ known. take room (take_through 10 known)) (append_assoc bytes (byte ∷ []) rest)
          ∙ ap (take room) (take_through-append 10 bytes (byte ∷ rest) begun.unended ∙ ap (λ ending. bytes ++ ending) (ended byte rest is))
          ∙ take_all room line fits));
      fits = fits;
    }
  where
    ended : (b : ℕ) (rest : List ℕ) → b ≡ 10 → take_through 10 (b ∷ rest) ≡ b ∷ []
    ended b rest same = subst (λ n. take_through 10 (n ∷ rest) ≡ n ∷ []) (sym same) refl

pub part_of_line : (until : Until) (room count : ℕ) (told now left : Option (List ℕ)) (bytes : List ℕ) (byte : ℕ) → IsBegunPart until count told now bytes
    → count < room → TakesByte now left (Some byte) → until ≡ LineEnd → byte ≡ 10 → IsPart until room told left (bytes ++ byte ∷ [])
part_of_line End room count told now left bytes byte begun within taken line is = cc
part_of_line LineEnd room count told now left bytes byte begun within taken line is = line_part room count told now left bytes byte begun within taken is

-- ---- values

-- a byte at most is taken off
strip_last_length : (byte : ℕ) (xs : List ℕ) → length xs ≤ length (strip_last byte xs) + 1
strip_last_length byte xs = go (ends_with_byte byte xs)
  where
    go : (ends : Bool) → length xs ≤ length (cond ends (take (length xs - 1) xs) xs) + 1
    go true = omega (arith, length-take-le (length xs - 1) xs (omega arith))
    go false = omega arith

-- two at most
pub line_end_length : (xs : List ℕ) → length xs ≤ length (without_line_end xs) + 2
line_end_length xs = go (ends_with_byte 10 xs)
  where
    go : (ends : Bool) → length xs ≤ length (cond ends (strip_last 13 (strip_last 10 xs)) xs) + 2
    go true = omega (arith, strip_last_length 10 xs, strip_last_length 13 (strip_last 10 xs))
    go false = omega arith

-- what is shorter than the room isn't cut
uncut : (room : ℕ) (bytes all : List ℕ) → bytes ≡ take room all → length bytes < room → bytes ≡ all
uncut room bytes all is short =
    is ∙ take_all room all (⊎_elim (λ more. absurd (omega (arith, ap length is, length-take-le room all (omega (arith, more)), short))) (λ within. within)
    (cases_lt room (length all)))

pub value_of_part : (until : Until) (told left : Option (List ℕ)) (bytes : List ℕ) → IsPart until 1027 told left bytes
    → length (without_line_end bytes) ≤ 1024 → (IsMnemonic (without_line_end bytes) → ⊥) → IsValueIn until told left (without_line_end bytes)
value_of_part until told left bytes is fits no_mnemonic = record {
  bytes = bytes;
  read = is.read;
  all = whole told is.all;
  value_is = refl;
  fits = fits;
  no_mnemonic = no_mnemonic;
}
  where
    whole : (t : Option (List ℕ)) → IfSome t (λ known. bytes ≡ take 1027 (part until known)) → IfSome t (λ known. bytes ≡ part until known)
    whole None all = tt
    whole (Some known) all = uncut 1027 bytes (part until known) all (omega (arith, fits, line_end_length bytes))

pub refused_is_no_mnemonic : (text : List ℕ) (error : WordError) → reading text ≡ Err error → IsMnemonic text → ⊥
refused_is_no_mnemonic text error refused (share, reads) = let same = sym refused ∙ reads in cc

pub mnemonic_of_part : (until : Until) (told left : Option (List ℕ)) (bytes : List ℕ) → IsPart until 1027 told left bytes
    → length (without_line_end bytes) ≤ 1024 → IsMnemonic (without_line_end bytes) → HoldsBad Mnemonic until told
mnemonic_of_part until told left bytes is fits mnemonic = go told is.all
  where
    go : (t : Option (List ℕ)) → IfSome t (λ known. bytes ≡ take 1027 (part until known)) → HoldsBad Mnemonic until t
    go None all = tt
    go (Some known) all =
        let whole = uncut 1027 bytes (part until known) all (omega (arith, fits, line_end_length bytes)) in
        subst (λ xs. IsBad Mnemonic (without_line_end xs)) whole (fits, mnemonic)

pub long_of_part : (until : Until) (told left : Option (List ℕ)) (bytes : List ℕ) → IsPart until 1027 told left bytes
    → 1024 < length (without_line_end bytes) → HoldsBad TooLong until told
long_of_part until told left bytes is long = go told is.all
  where
    go : (t : Option (List ℕ)) → IfSome t (λ known. bytes ≡ take 1027 (part until known)) → HoldsBad TooLong until t
    go None all = tt
    go (Some known) all =
        let whole = part until known in
        ⊎_elim (λ more. omega (arith, more, line_end_length whole))
        (λ within. subst (λ xs. 1024 < length (without_line_end xs)) (all ∙ take_all 1027 whole within) long)
        (cases_lt 1027 (length whole))
