-- Hexadecimal digits by arithmetic.
use Rattle.std.proofs.Common.{◌≡◌, ℕ, ◌+◌, ◌-◌, ◌*◌, ◌/◌, ◌%◌, ◌<◌, ◌≤◌, ◌⊎◌, inl, inr, List, take, drop, map, length, get_or, slice_set}
use Rattle.std.proofs.Common.{Option, Some, None, unwrap_or, Result, Ok, Err, Bool, true, false, refl, sym, ap, ap₂, ◌∙◌, bit_or, bit_and, ◌^◌, ltb, arith}
use Rattle.std.specs.Prelude.{MatchResult}
use Rattle.std.specs.List.{range_with_len}
use Rattle.std.proofs.lemmas.Bool.{cases_lt, lt-ltb, le-ltb}
use Rattle.std.proofs.lemmas.Nat.{or_lt, or_shr, or_shifted, le_or_l, le_or_r}
use Rattle.std.proofs.lemmas.List.FromFn.{get_or-map-range_with_len}
use Rattle.hex.specs.Hex.{lower_digits, hex_digit_value, digit_or_error, decode_of, pair_value, decode_pairs, ◌>>=◌}
use Rattle.hex.specs.declared.error.FromHexError.{FromHexError}
use Rattle.hex.specs.declared.error.FromHexError.TheVariants.{InvalidHexCharacter}
use Rattle.hex.proofs.Pairs.{prepend, decode_start, decode_step, decode_err, decode_done}
use Rattle.hex.proofs.HexLemmas.{decode_of-even}

-- ---- one digit

abbrev pub digit_by_steps : ℕ → ℕ
digit_by_steps n = 48 + n + (n + 6) / 16 * 39

all_digits : map digit_by_steps (range_with_len 0 16) ≡ lower_digits
all_digits = refl

pub digit_is : (n : ℕ) → n < 16 → digit_by_steps n ≡ get_or lower_digits n 0
digit_is n below =
    sym (get_or-map-range_with_len digit_by_steps 0 16 n n 0 below (omega arith)) ∙ ap (λ l. get_or l n 0) all_digits

-- ---- what a digit is worth

-- what a byte is worth as a digit, or 16 if it is none
abbrev pub worth_of : ℕ → ℕ
worth_of byte = unwrap_or (hex_digit_value byte) 16

-- the bit that tells whether a number is at least the limit
abbrev above_by_steps : ℕ → ℕ → ℕ
above_by_steps number limit = bit_or (number / 16 + 15) (number % 16 + (16 - limit)) / 2 ^ 4

parts : (number limit : ℕ) → above_by_steps number limit ≡ bit_or ((number / 16 + 15) / 2 ^ 4) ((number % 16 + (16 - limit)) / 2 ^ 4)
parts number limit = or_shr (number / 16 + 15) (number % 16 + (16 - limit)) 4

pub none_below : (number limit : ℕ) → number < limit → limit ≤ 16 → above_by_steps number limit ≡ 0
none_below number limit below few =
    let high : (number / 16 + 15) / 2 ^ 4 ≡ 0 = omega arith in
    let low : (number % 16 + (16 - limit)) / 2 ^ 4 ≡ 0 = omega arith in
    parts number limit ∙ ap₂ bit_or high low

pub one_above : (number limit : ℕ) → number < 256 → limit ≤ number → limit ≤ 16 → above_by_steps number limit ≡ 1
one_above number limit fits above few =
    let high = (number / 16 + 15) / 2 ^ 4 in
    let low = (number % 16 + (16 - limit)) / 2 ^ 4 in
    let one : bit_or high low < 2 ^ 1 = or_lt 1 high low (omega arith) (omega arith) in
    let of_high = le_or_l high low in
    let of_low = le_or_r high low in
    let whole = parts number limit in
    omega arith

-- a mask for the numbers below a limit
abbrev pub mask_of : Bool → ℕ
mask_of true = 255
mask_of false = 0

pub mask_is : (number limit mask : ℕ) → (number < limit → mask ≡ 255) → (limit ≤ number → mask ≡ 0) → mask ≡ mask_of (ltb number limit)
mask_is number limit mask ones zeros =
    elim (cases_lt number limit) [
      | inl below ↦ rw (lt-ltb number limit below) (ones below)
      | inr above ↦ rw (le-ltb number limit above) (zeros above)
    ]

abbrev pub worth_by_masks : ℕ → ℕ → ℕ → ℕ
worth_by_masks is_figure is_letter byte =
    bit_or
    (bit_or (bit_and is_figure ((byte + 208) % 256)) (bit_and is_letter (((bit_or byte 32 + 159) % 256 + 10) % 256)))
    (bit_and (255 - bit_or is_figure is_letter) 16)

abbrev pub worth_by_steps : ℕ → ℕ
worth_by_steps byte = worth_by_masks (mask_of (ltb ((byte + 208) % 256) 10)) (mask_of (ltb ((bit_or byte 32 + 159) % 256) 6)) byte

all_bytes : map worth_by_steps (range_with_len 0 256) ≡ map worth_of (range_with_len 0 256)
all_bytes = refl

pub worth_is : (byte : ℕ) → byte < 256 → worth_by_steps byte ≡ worth_of byte
worth_is byte below =
    sym (get_or-map-range_with_len worth_by_steps 0 256 byte byte 0 below (omega arith))
    ∙ ap (λ l. get_or l byte 0) all_bytes
    ∙ get_or-map-range_with_len worth_of 0 256 byte byte 0 below (omega arith)

-- ---- two digits

digit_small : (byte v : ℕ) → hex_digit_value byte ≡ Some v → v < 16
digit_small byte v is = grind (arith)

abbrev both : ℕ → ℕ → ℕ → Option ℕ → Option ℕ → Result ℕ FromHexError
both a b i high low = digit_or_error a i high >>= (λ h. digit_or_error b (i + 1) low >>= (λ l. Ok (h * 16 + l)))

both_read : (a b i : ℕ) (high low : Option ℕ) → unwrap_or high 16 < 16 → unwrap_or low 16 < 16
    → both a b i high low ≡ Ok (unwrap_or high 16 * 16 + unwrap_or low 16)
both_read a b i (Some h) (Some l) is_high is_low = refl
both_read a b i (Some h) None is_high is_low = absurd (omega arith)
both_read a b i None low is_high is_low = absurd (omega arith)

both_refused : (a b i : ℕ) (high low : Option ℕ) → ((v : ℕ) → high ≡ Some v → v < 16) → ((v : ℕ) → low ≡ Some v → v < 16)
    → (16 ≤ unwrap_or high 16) ⊎ (16 ≤ unwrap_or low 16) → (error : FromHexError) × (both a b i high low ≡ Err error)
both_refused a b i None low high_small low_small other = (InvalidHexCharacter a i, refl)
both_refused a b i (Some h) None high_small low_small other = (InvalidHexCharacter b (i + 1), refl)
both_refused a b i (Some h) (Some l) high_small low_small (inl other) = let small = high_small h refl in absurd (omega arith)
both_refused a b i (Some h) (Some l) high_small low_small (inr other) = let small = low_small l refl in absurd (omega arith)

pair_read : (a b i : ℕ) → worth_of a < 16 → worth_of b < 16 → pair_value a b i ≡ Ok (worth_of a * 16 + worth_of b)
pair_read a b i high low = both_read a b i (hex_digit_value a) (hex_digit_value b) high low

pair_refused : (a b i : ℕ) → (16 ≤ worth_of a) ⊎ (16 ≤ worth_of b) → (error : FromHexError) × (pair_value a b i ≡ Err error)
pair_refused a b i other = both_refused a b i (hex_digit_value a) (hex_digit_value b) (digit_small a) (digit_small b) other

-- the byte of two digits by bits
byte_by_bits : (h l : ℕ) → h < 16 → l < 16 → bit_or (h * 16 % 256) l ≡ h * 16 + l
byte_by_bits h l high low =
    let fits : h * 16 % 256 ≡ h * 2 ^ 4 = omega arith in
    ap (λ n. bit_or n l) fits ∙ or_shifted h 4 l low

one_large : (h l : ℕ) → (h < 16 → l < 16 → ⊥) → (16 ≤ h) ⊎ (16 ≤ l)
one_large h l not_both =
    elim (cases_lt h 16) [
      | inr high ↦ inl high
      | inl small ↦
          elim (cases_lt l 16) [
            | inr low ↦ inr low
            | inl also_small ↦ absurd (not_both small also_small)
          ]
    ]

-- ---- the loop

-- what is read of the digits before pair i, whose worth is joined, and whether there was another byte
pub record IsReading (digits bytes : List ℕ) (i worth : ℕ) : Type 0 where
  pub read : worth < 16 → decode_pairs 0 digits ≡ prepend (take i bytes) (decode_pairs (2 * i) (drop (2 * i) digits))
  pub refused : 16 ≤ worth → (error : FromHexError) × (decode_pairs 0 digits ≡ Err error)

pub read_more : (digits bytes : List ℕ) (i worth a b : ℕ) → 2 * i + 1 < length digits → i < length bytes
    → a ≡ get_or digits (2 * i) 0 → b ≡ get_or digits (2 * i + 1) 0
    → IsReading digits bytes i worth
    → IsReading digits (slice_set bytes i (bit_or (worth_of a * 16 % 256) (worth_of b))) (i + 1) (bit_or worth (bit_or (worth_of a) (worth_of b)))
read_more digits bytes i worth a b fits room is_a is_b before =
    let high = worth_of a in
    let low = worth_of b in
    let joined = bit_or high low in
    let all = bit_or worth joined in
    let worth_within = le_or_l worth joined in
    let joined_within = le_or_r worth joined in
    let high_within = le_or_l high low in
    let low_within = le_or_r high low in
    record {
      read = λ small.
          let pair = pair_read a b (2 * i) (omega arith) (omega arith) in
          let value = byte_by_bits high low (omega arith) (omega arith) in
          decode_step digits bytes i (bit_or (high * 16 % 256) low) fits room (rw (value, ← is_a, ← is_b) pair) (before.read (omega arith));
      refused = λ large.
          elim (cases_lt worth 16) [
            | inr earlier ↦ before.refused earlier
            | inl small ↦
                let error = pair_refused a b (2 * i) (one_large high low
                (λ h l. let four = or_lt 4 worth joined (omega arith) (or_lt 4 high low h l) in omega arith)) in
                (error.0, decode_err digits bytes i error.0 fits (rw (← is_a, ← is_b) error.1) (before.read small))
          ];
    }

pub reading_begins : (digits bytes : List ℕ) → IsReading digits bytes 0 0
reading_begins digits bytes = record { read = λ small. decode_start digits bytes; refused = λ large. absurd (omega arith) }

pub reading_ends : (digits bytes : List ℕ) (i worth : ℕ) → length digits ≡ 2 * length bytes → length bytes ≤ i → IsReading digits bytes i worth
    → MatchResult (decode_of digits) (λ read. (ltb worth 16 ≡ true) × (bytes ≡ read)) (λ error. ltb worth 16 ≡ false)
reading_ends digits bytes i worth twice end reading =
    let whole = decode_of-even digits (omega arith) in
    elim (cases_lt worth 16) [
      | inl small ↦ rw (whole ∙ decode_done digits bytes i end (omega arith) (reading.read small)) (lt-ltb worth 16 small, refl)
      | inr large ↦ rw (whole ∙ (reading.refused large).1) (le-ltb worth 16 large)
    ]
