-- The fields of a share and its words determine each other.
use Rattle.std.proofs.Common.{◌≡◌, ℕ, ◌+◌, ◌-◌, ◌*◌, ◌/◌, ◌%◌, ◌^◌, ◌<◌, ◌≤◌, Bool, true, false, List, [], ◌∷◌, ◌++◌, length}
use Rattle.std.proofs.Common.{get_or, take, drop, refl, sym, ap, ◌∙◌, arith, All, subst}
use Rattle.std.specs.Prelude.{◌==◌}
use Rattle.std.proofs.lemmas.Int.Digits.{number_more}
use Rattle.std.proofs.Math.Nat.{mod-eq_of_lt, div-eq_of_lt, pow-le-pow_right}
use Rattle.std.proofs.lemmas.Bool.Decides.{nat_tests}
use Rattle.std.proofs.lemmas.Nat.{pow-add, pow_pos, mod-pow-add, mod_below, mul-add-lt, shr_high, shr_split, shr-shr}
use Rattle.std.proofs.lemmas.List.{length-append, length-take-le, length-drop, take-append-drop, take_all, get_or_append_left}
use Rattle.std.proofs.lemmas.List.Elements.{All-take, All-drop, All-tail}
use Rattle.s39_words.specs.Layout.{IsIndex}
use Rattle.s39_words.specs.declared.share.ShareFields.{ShareFields}
use Rattle.s39_lists.specs.Digits.{digits, number_of}
use Rattle.s39_words.specs.Share.{IsValue, IsShare, flag_bit, header_number, value_words, with_field, share_number, data_words}
use Rattle.s39_words.specs.Reading.{IsWordCount, padding_length, number_at, flag_of, padding_of, stored_group_threshold, stored_group_count}
use Rattle.s39_lists.specs.Written.{Bits, bits_with}
use Rattle.s39_words.specs.Reading.{byte_count, share_value_at, fields_at}
use Rattle.s39_lists.proofs.Digits.{length-digits, digits-below, number-append, number-below, number-digits, digits-number}
use Rattle.s39_words.proofs.Digits.{digit_at, low_field, number_at-part, number_at-inner}

pub data_words-below : (f : ShareFields) → All IsIndex (data_words f)
data_words-below f = digits-below 10 (4 + value_words (length f.value.items)) (share_number f)

bit_of : (flag : Bool) → (flag_bit flag < 2) × ((flag_bit flag == 1) ≡ flag)
bit_of true = (omega arith, refl)
bit_of false = (omega arith, refl)

flag-bit : (n : ℕ) → n < 2 → flag_bit (n == 1) ≡ n
flag-bit n l = grind (arith, nat_tests)

-- ---- from a share to its words

module _ (f : ShareFields) (ok : IsShare f) where
  abbrev size : ℕ
  size = length f.value.items

  abbrev rest : ℕ
  rest = value_words size

  abbrev value : ℕ
  value = number_of 8 f.value.items

  value-below : value < 2 ^ (8 * size)
  value-below = number-below 8 f.value.items ok.value.bytes

  value-fits : value < 2 ^ (10 * rest)
  value-fits =
      let more : 2 ^ (8 * size) ≤ 2 ^ (10 * rest) = pow-le-pow_right (omega arith) (omega arith) in
      omega (arith, value-below)

  -- the highest bits are those of the fields before the value
  header-at : (k : ℕ) → share_number f / 2 ^ (10 * rest + k) ≡ header_number f / 2 ^ k
  header-at k = sym (shr-shr (share_number f) (10 * rest) k) ∙ ap (λ n. n / 2 ^ k) (shr_high (header_number f) (10 * rest) value value-fits)

  module _ (checksum : List ℕ) (three : length checksum ≡ 3) where
    abbrev words : List ℕ
    words = data_words f ++ checksum

    length-data_words : length (data_words f) ≡ 4 + rest
    length-data_words = length-digits 10 (4 + rest) (share_number f)

    length-words : length words ≡ 4 + rest + 3
    length-words = omega (arith, length-append (data_words f) checksum, length-data_words)

    pub padding_length-is : padding_length (length words) ≡ 10 * rest - 8 * size
    padding_length-is = let even = ok.value.count.0 in omega (arith, length-words)

    byte_count-is : byte_count (length words) ≡ size
    byte_count-is = let even = ok.value.count.0 in omega (arith, length-words, padding_length-is)

    pub is_word_count : IsWordCount (length words)
    is_word_count =
        let value = ok.value.count in
        record {
          padding = omega (arith, length-words, value);
          at_least = omega (arith, length-words, value);
          at_most = omega (arith, length-words, value);
        }

    pub flag-is : flag_of words ≡ f.extendable
    flag-is =
        let bit = bit_of f.extendable in
        let e : 10 * (4 + rest - 1 - 1) ≡ 10 * rest + 20 = omega arith in
        let second : get_or words 1 0 ≡ header_number f / 2 ^ 20 % 2 ^ 10 =
        get_or_append_left (data_words f) checksum 0 1 (omega (arith, length-data_words)) ∙ digit_at 10 (4 + rest) (share_number f) 1 (omega arith)
        ∙ ap (λ k. share_number f / 2 ^ k % 2 ^ 10) e ∙ ap (λ n. n % 2 ^ 10) (header-at 20) in
        let here : header_number f / 2 ^ 20 % 2 ^ 10 / 2 ^ 4 % 2 ≡ flag_bit f.extendable = omega (arith, ok, bit.0) in
        ap (λ w. w / 2 ^ 4 % 2 == 1) second ∙ ap (λ n. n == 1) here ∙ bit.1

    module _ (below : All IsIndex checksum) where
      number-is : number_of 10 words / 2 ^ 30 ≡ share_number f
      number-is =
          let e : 10 * (4 + rest) ≡ 10 * rest + 40 = omega arith in
          let header : header_number f < 2 ^ 40 = omega (arith, ok, (bit_of f.extendable).0) in
          let small : share_number f < 2 ^ (10 * (4 + rest)) =
          rw (e, pow-add 2 (10 * rest) 40) (mul-add-lt (header_number f) (2 ^ (10 * rest)) value (2 ^ 40) header value-fits) in
          let back : number_of 10 checksum < 2 ^ 30 = subst (λ k. number_of 10 checksum < 2 ^ (10 * k)) three (number-below 10 checksum below) in
          ap (λ n. n / 2 ^ 30) (number-append 10 (data_words f) checksum ∙ ap (λ k. number_of 10 (data_words f) * 2 ^ (10 * k) + number_of 10 checksum) three)
          ∙ shr_high (number_of 10 (data_words f)) 30 (number_of 10 checksum) back
          ∙ number-digits 10 (4 + rest) (share_number f) ∙ mod-eq_of_lt small

      -- the number in some bits of the data words
      at : (place width k : ℕ) → place + width + k ≡ 40 + 10 * rest → number_at words place width ≡ share_number f / 2 ^ k % 2 ^ width
      at place width k e =
          let whole : 10 * length words - place - width ≡ 30 + k = omega (arith, length-words) in
          ap (λ j. number_of 10 words / 2 ^ j % 2 ^ width) whole ∙ ap (λ n. n % 2 ^ width) (sym (shr-shr (number_of 10 words) 30 k)
          ∙ ap (λ n. n / 2 ^ k) number-is)

      header_field : (place width k : ℕ) → place + width + k ≡ 40 → number_at words place width ≡ header_number f / 2 ^ k % 2 ^ width
      header_field place width k e = at place width (10 * rest + k) (omega arith) ∙ ap (λ n. n % 2 ^ width) (header-at k)

      pub padding_zero : padding_of words ≡ 0
      padding_zero =
          let p = 10 * rest - 8 * size in
          ap (number_at words 40) padding_length-is ∙ at 40 p (8 * size) (omega arith)
          ∙ low_field (header_number f) (10 * rest) value (8 * size) p (omega arith) ∙ rw (div-eq_of_lt value-below) (omega arith)

      at_value : share_value_at words ≡ f.value.items
      at_value =
          let p = 10 * rest - 8 * size in
          let number : number_at words (40 + p) (8 * size) ≡ value =
          at (40 + p) (8 * size) 0 (omega arith) ∙ low_field (header_number f) (10 * rest) value 0 (8 * size) (omega arith)
          ∙ ap (λ n. n % 2 ^ (8 * size)) (omega arith) ∙ mod-eq_of_lt value-below in
          rw (byte_count-is, padding_length-is, number) (digits-number 8 f.value.items ok.value.bytes)

      -- the fields are those in the words
      pub fields-are : fields_at words ≡ f
      fields-are =
          let bit = (bit_of f.extendable).0 in
          let id : number_at words 0 15 ≡ f.id = header_field 0 15 25 refl ∙ omega (arith, ok, bit) in
          let exponent : number_at words 16 4 ≡ f.exponent = header_field 16 4 20 refl ∙ omega (arith, ok, bit) in
          let group : number_at words 20 4 ≡ f.group_index = header_field 20 4 16 refl ∙ omega (arith, ok, bit) in
          let group_threshold : number_at words 24 4 + 1 ≡ f.group_threshold = ap (λ n. n + 1) (header_field 24 4 12 refl) ∙ omega (arith, ok, bit) in
          let group_count : number_at words 28 4 + 1 ≡ f.group_count = ap (λ n. n + 1) (header_field 28 4 8 refl) ∙ omega (arith, ok, bit) in
          let member : number_at words 32 4 ≡ f.member_index = header_field 32 4 4 refl ∙ omega (arith, ok, bit) in
          let member_threshold : number_at words 36 4 + 1 ≡ f.member_threshold = ap (λ n. n + 1) (header_field 36 4 0 refl) ∙ omega (arith, ok, bit) in
          rw (id, flag-is, exponent, group, group_threshold, group_count, member, member_threshold, at_value) refl

-- ---- from words to their share

-- the flag is the bit behind the identifier
pub flag_at : (ws : List ℕ) → All IsIndex ws → 2 ≤ length ws → flag_of ws ≡ (number_at ws 15 1 == 1)
flag_at [] all two = absurd (omega arith)
flag_at (v ∷ []) all two = absurd (omega arith)
flag_at (v ∷ x ∷ ws) all two =
    let behind = All-tail IsIndex x ws (All-tail IsIndex v (x ∷ ws) all) in
    ap (λ n. n == 1) (omega arith ∙ sym (number_at-part (v ∷ []) (x ∷ []) ws 15 5 1 behind (omega arith) (omega arith)))

pub length-value : (ws : List ℕ) → length (share_value_at ws) ≡ byte_count (length ws)
length-value ws = length-digits 8 (byte_count (length ws)) (number_at ws (40 + padding_length (length ws)) (8 * byte_count (length ws)))

module _ (ws : List ℕ) (count : IsWordCount (length ws)) where
  pub words-at_least : 20 ≤ length ws
  words-at_least = let a = count.at_least in let b = count.padding in omega arith

  -- the value takes the words behind the first four, and before the last three
  value-whole : padding_length (length ws) + 8 * byte_count (length ws) ≡ 10 * (length ws - 7)
  value-whole = let a = count.at_least in let b = count.padding in omega arith

  -- a byte of the value
  pub value_byte : (i : ℕ) → i < length (share_value_at ws) → get_or (share_value_at ws) i 0 ≡ number_at ws (40 + padding_length (length ws) + 8 * i) 8
  value_byte i within =
      let p = padding_length (length ws) in
      let m = byte_count (length ws) in
      let e : 8 * (m - 1 - i) ≡ 8 * m - 8 * i - 8 = omega arith in
      digit_at 8 m (number_at ws (40 + p) (8 * m)) i (omega (arith, length-value ws))
      ∙ ap (λ k. number_at ws (40 + p) (8 * m) / 2 ^ k % 2 ^ 8) e
      ∙ number_at-inner ws (40 + p) (8 * m) (8 * i) 8 (omega (arith, length-value ws)) (omega (arith, value-whole, words-at_least))

  value_words-is : value_words (length (share_value_at ws)) ≡ length ws - 7
  value_words-is = let b = count.padding in omega (arith, length-value ws, value-whole)

  is_value : IsValue (share_value_at ws)
  is_value =
      let a = count.at_least in
      let b = count.at_most in
      let c = count.padding in
      record {
        bytes = digits-below 8 (byte_count (length ws)) (number_at ws (40 + padding_length (length ws)) (8 * byte_count (length ws)));
        count = (
          omega (arith, length-value ws, value-whole),
          omega (arith, length-value ws, value-whole),
          omega (arith, length-value ws, value-whole),
        );
      }

  at-below : (place width : ℕ) → number_at ws place width < 2 ^ width
  at-below place width = mod_below (number_of 10 ws / 2 ^ (10 * length ws - place - width)) (2 ^ width) (pow_pos width)

  -- the fields in the words are in their ranges, but for the thresholds
  pub is_share : stored_group_threshold ws ≤ stored_group_count ws → IsShare (fields_at ws)
  is_share le = record {
    id = at-below 0 15;
    exponent = at-below 16 4;
    group_index = at-below 20 4;
    group_threshold = omega arith;
    threshold_in_count = omega arith;
    group_count = omega (arith, at-below 28 4);
    member_index = at-below 32 4;
    member_threshold = omega arith;
    member_threshold_in_range = omega (arith, at-below 36 4);
    value = is_value;
  }

  module _ (all : All IsIndex ws) where
    abbrev number : ℕ
    number = number_of 10 ws

    -- the number down to some bit, from that down to a higher one and a field
    down_to : (place width x a : ℕ) → place + width ≤ 10 * length ws → a ≡ number / 2 ^ (10 * length ws - place) → x ≡ number_at ws place width
        → a * 2 ^ width + x ≡ number / 2 ^ (10 * length ws - (place + width))
    down_to place width x a within p q =
        let j = 10 * length ws - (place + width) in
        let above : 10 * length ws - place ≡ j + width = omega arith in
        let here : 10 * length ws - place - width ≡ j = omega arith in
        let high = p ∙ ap (λ k. number / 2 ^ k) above ∙ sym (shr-shr number j width) in
        let low = q ∙ ap (λ k. number / 2 ^ k % 2 ^ width) here in
        ap (λ n. n * 2 ^ width + x) high ∙ ap (λ n. number / 2 ^ j / 2 ^ width * 2 ^ width + n) low ∙ shr_split (number / 2 ^ j) width

    header-is : header_number (fields_at ws) ≡ number / 2 ^ (10 * length ws - 40)
    header-is =
        let long = words-at_least in
        let whole : 10 * length ws ≡ 10 * length ws - 0 = omega arith in
        let none = sym (div-eq_of_lt (number-below 10 ws all)) ∙ ap (λ k. number / 2 ^ k) whole in
        let flag : flag_bit (flag_of ws) ≡ number_at ws 15 1 =
        ap flag_bit (flag_at ws all (omega arith)) ∙ flag-bit (number_at ws 15 1) (at-below 15 1) in
        down_to 36 4 _ _ (omega arith) (down_to 32 4 _ _ (omega arith) (down_to 28 4 _ _ (omega arith) (down_to 24 4 _ _ (omega arith)
        (down_to 20 4 _ _ (omega arith) (down_to 16 4 _ _ (omega arith) (down_to 15 1 _ _ (omega arith) (down_to 0 15 _ _ (omega arith) none refl) flag)
        refl) refl) (omega arith)) (omega arith)) refl) (omega arith)

    module _ (padding : padding_of ws ≡ 0) where
      value-is : number_of 8 (share_value_at ws) ≡ number_at ws 40 (10 * (length ws - 7))
      value-is =
          let p = padding_length (length ws) in
          let size = byte_count (length ws) in
          let j = 10 * length ws - (40 + p) - 8 * size in
          let whole : 10 * (length ws - 7) ≡ p + 8 * size = sym value-whole in
          let low : 10 * length ws - 40 - (p + 8 * size) ≡ j = omega arith in
          let high : j + 8 * size ≡ 10 * length ws - 40 - p = omega (arith, value-whole, words-at_least) in
          let zero : 0 * 2 ^ (8 * size) + number / 2 ^ j % 2 ^ (8 * size) ≡ number / 2 ^ j % 2 ^ (8 * size) = omega arith in
          let none : number / 2 ^ j / 2 ^ (8 * size) % 2 ^ p ≡ 0 =
          ap (λ n. n % 2 ^ p) (shr-shr number j (8 * size) ∙ ap (λ k. number / 2 ^ k) high) ∙ padding in
          number-digits 8 size (number_at ws (40 + p) (8 * size)) ∙ mod-eq_of_lt (at-below (40 + p) (8 * size))
          ∙ sym (ap (λ b. number / 2 ^ (10 * length ws - 40 - b) % 2 ^ b) whole ∙ ap (λ k. number / 2 ^ k % 2 ^ (p + 8 * size)) low
          ∙ mod-pow-add (number / 2 ^ j) p (8 * size) ∙ ap (λ n. n * 2 ^ (8 * size) + number / 2 ^ j % 2 ^ (8 * size)) none ∙ zero)

      -- the words are the data words of those fields, and the last three
      pub data_words-are : data_words (fields_at ws) ++ drop (length ws - 3) ws ≡ ws
      data_words-are =
          let long = words-at_least in
          let front = take (length ws - 3) ws in
          let back = drop (length ws - 3) ws in
          let length-front : length front ≡ length ws - 3 = length-take-le (length ws - 3) ws (omega arith) in
          let three : 10 * length back ≡ 30 = omega (arith, length-drop (length ws - 3) ws) in
          let below : number_of 10 back < 2 ^ 30 =
          subst (λ k. number_of 10 back < 2 ^ k) three (number-below 10 back (All-drop IsIndex (length ws - 3) ws all)) in
          let size : 4 + value_words (length (share_value_at ws)) ≡ length front = omega (arith, value_words-is, length-front) in
          let bits : 10 * value_words (length (share_value_at ws)) ≡ 10 * (length ws - 7) = ap (λ k. 10 * k) value_words-is in
          let end : 10 * length ws - (40 + 10 * (length ws - 7)) ≡ 30 = omega arith in
          let same : share_number (fields_at ws) ≡ number_of 10 front =
          ap (λ b. header_number (fields_at ws) * 2 ^ b + number_of 8 (share_value_at ws)) bits
          ∙ down_to 40 (10 * (length ws - 7)) _ _ (omega arith) header-is value-is ∙ ap (λ k. number / 2 ^ k) end
          ∙ ap (λ xs. number_of 10 xs / 2 ^ 30) (sym (take-append-drop (length ws - 3) ws)) ∙ ap (λ n. n / 2 ^ 30) (number-append 10 front back
          ∙ ap (λ k. number_of 10 front * 2 ^ k + number_of 10 back) three)
          ∙ shr_high (number_of 10 front) 30 (number_of 10 back) below in
          ap (λ xs. xs ++ back) (ap (λ k. digits 10 k (share_number (fields_at ws))) size ∙ ap (digits 10 (length front)) same
          ∙ digits-number 10 front (All-take IsIndex (length ws - 3) ws all))
          ∙ take-append-drop (length ws - 3) ws

-- ---- the words, written one field after another

-- what is written once the first i bytes of the value are
abbrev pub written_until : ShareFields → ℕ → Bits
written_until f i =
    let padding = 10 * value_words (length f.value.items) - 8 * length f.value.items in
    bits_with (record { count = 40; number = header_number f }) (padding + 8 * i) (number_of 8 (take i f.value.items))

-- two fields are as good as one
bits_with-more : (bits : Bits) (v w x y : ℕ) → bits_with (bits_with bits v x) w y ≡ bits_with bits (v + w) (x * 2 ^ w + y)
bits_with-more bits v w x y =
    let count : bits.count + v + w ≡ bits.count + (v + w) = omega arith in
    let number : (bits.number * 2 ^ v + x) * 2 ^ w + y ≡ bits.number * 2 ^ (v + w) + (x * 2 ^ w + y) = rw (pow-add 2 v w) (omega arith) in
    ap (λ n. record { count = n; number = (bits.number * 2 ^ v + x) * 2 ^ w + y }) count
    ∙ ap (λ n. record { count = bits.count + (v + w); number = n }) number

pub written_more : (f : ShareFields) (i byte : ℕ) → i < length f.value.items → byte ≡ get_or f.value.items i 0
    → bits_with (written_until f i) 8 byte ≡ written_until f (i + 1)
written_more f i byte within is =
    let padding = 10 * value_words (length f.value.items) - 8 * length f.value.items in
    let header : Bits = record { count = 40; number = header_number f } in
    let e : padding + 8 * i + 8 ≡ padding + 8 * (i + 1) = omega arith in
    bits_with-more header (padding + 8 * i) 8 (number_of 8 (take i f.value.items)) byte
    ∙ ap (λ n. bits_with header n (number_of 8 (take i f.value.items) * 2 ^ 8 + byte)) e
    ∙ ap (λ b. bits_with header (padding + 8 * (i + 1)) (number_of 8 (take i f.value.items) * 2 ^ 8 + b)) is
    ∙ ap (bits_with header (padding + 8 * (i + 1))) (sym (number_more 256 f.value.items i within))

pub written-all : (f : ShareFields) (i : ℕ) → i ≡ length f.value.items
    → digits 10 ((written_until f i).count / 10) (written_until f i).number ≡ data_words f
written-all f i all =
    let rest = value_words (length f.value.items) in
    let padding = 10 * rest - 8 * length f.value.items in
    let e : padding + 8 * i ≡ 10 * rest = omega arith in
    let count : (40 + 10 * rest) / 10 ≡ 4 + rest = omega arith in
    ap (λ xs. digits 10 ((40 + (padding + 8 * i)) / 10) (with_field (header_number f) (padding + 8 * i, number_of 8 xs)))
    (take_all i f.value.items (omega arith))
    ∙ ap (λ k. digits 10 ((40 + k) / 10) (with_field (header_number f) (k, number_of 8 f.value.items))) e
    ∙ ap (λ n. digits 10 n (share_number f)) count
