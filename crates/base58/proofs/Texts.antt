-- What is written is read, and what is read is written so.
use Rattle.std.proofs.Common.{◌≡◌, ℕ, ◌+◌, ◌-◌, ◌<◌, ◌≤◌, Bool, true, false, cond, nat_le, List, ◌++◌, All, length, map, take, drop, get_or, refl}
use Rattle.std.proofs.Common.{sym, ap, ◌∙◌, subst, inl, inr, arith, length-append}
use Rattle.std.specs.Prelude.{Option, Some, None}
use Rattle.std.proofs.lemmas.Bool.{ltb-false, lt-ltb, le-ltb, lt-leb, cases_lt}
use Rattle.std.proofs.lemmas.Slice.Eq.{bytes_eq-Decides}
use Rattle.std.proofs.lemmas.List.{length-map, length-take-le, take-append-drop, take_at, drop_at, get_or-map}
use Rattle.std.proofs.lemmas.List.Sums.{position_or_len_is}
use Rattle.std.proofs.lemmas.List.Elements.{All-append, All-get_or, All-take}
use Rattle.hashes.proofs.DigestBytes.{AreBytes-double_sha256, length-double_sha256}
use Rattle.hashes.specs.Digests.{double_sha256}
use Rattle.base58.specs.Base58.{letter, digit_of, converted, decoded, base58, checksum}
use Rattle.base58.specs.Reading.{first_bad_letter, payload_of, checksum_of, refusal_of, IsRead, IsText}
use Rattle.base58.specs.declared.reading.Base58Error.{Base58Error}
use Rattle.base58.specs.declared.reading.Base58Error.TheVariants.{BadLength}
use Rattle.base58.proofs.Alphabet.{digits-letters, letters-digits, digits-below}
use Rattle.base58.proofs.Converted.{there_and_back, converted-below, converted-length}

-- ---- a checksum is four bytes

pub checksum-below : (payload : List ℕ) → All (λ b. b < 256) (checksum payload)
checksum-below payload = All-take (λ b. b < 256) 4 (double_sha256 payload) (AreBytes-double_sha256 payload)

checksum-length : (payload : List ℕ) → length (checksum payload) ≡ 4
checksum-length payload = length-take-le 4 (double_sha256 payload) (omega (arith, length-double_sha256 payload))

-- ---- what is read is written so

encoded : (text : List ℕ) → length text ≤ first_bad_letter text → base58 (decoded text) ≡ text
encoded text h =
    ap (map letter) (there_and_back 58 256 (map digit_of text) (omega arith) (omega arith) (digits-below text h))
    ∙ letters-digits text h

-- a text of more letters writes more than 82 bytes
long : (text : List ℕ) → length text ≤ first_bad_letter text → 112 < length text → 82 < length (decoded text)
long text h l = elim (cases_lt 82 (length (decoded text))) [
  | inl more ↦ more
  | inr fewer ↦
      let below = converted-below 58 256 (map digit_of text) (omega arith) in
      let short = converted-length (decoded text) below fewer in
      let same = ap length (encoded text h) in
      let letters = length-map (converted 256 58 (decoded text)) letter in
      absurd (omega arith)
]

pub too_long : (text : List ℕ) → length text ≤ first_bad_letter text → 112 < length text → refusal_of text ≡ Some BadLength
too_long text h l =
    let more = long text h l in
    let letters = le-ltb (first_bad_letter text) (length text) h in
    let least = le-ltb (length (decoded text)) 4 (omega arith) in
    let most = lt-ltb 82 (length (decoded text)) more in
    rw (letters, least, most) refl

not_some : (b : Bool) (e : Base58Error) (rest : Option Base58Error) → cond b (Some e) rest ≡ None → (b ≡ false) × (rest ≡ None)
not_some true e rest h = absurd (cc)
not_some false e rest h = (refl, h)

is_none : (b : Bool) (e : Base58Error) → cond b None (Some e) ≡ None → b ≡ true
is_none true e h = refl
is_none false e h = absurd (cc)

pub read : (text payload : List ℕ) → IsRead text payload → IsText text payload
read text payload is =
    let bytes = decoded text in
    let one = not_some _ _ _ is.not_refused in
    let two = not_some _ _ _ one.1 in
    let three = not_some _ _ _ two.1 in
    let four = is_none _ _ three.1 in
    let letters = ltb-false (first_bad_letter text) (length text) one.0 in
    let most = ltb-false 82 (length bytes) three.0 in
    let same : checksum_of text ≡ checksum (payload_of text) = (bytes_eq-Decides (checksum_of text) (checksum (payload_of text))).0 four in
    let whole : bytes ≡ payload_of text ++ checksum (payload_of text) =
    sym (take-append-drop (length bytes - 4) bytes) ∙ ap (λ c. payload_of text ++ c) same in
    let back = converted-below 58 256 (map digit_of text) (omega arith) in
    let short = length-take-le (length bytes - 4) bytes (omega arith) in
    subst (IsText text) is.payload_is (record {
      bytes = All-take (λ b. b < 256) (length bytes - 4) bytes back;
      short = omega arith;
      same = sym (encoded text letters) ∙ ap base58 whole;
    })

pub written : (text payload : List ℕ) → IsText text payload → IsRead text payload
written text payload is =
    let bytes = payload ++ checksum payload in
    let below : All (λ b. b < 256) bytes = All-append (λ b. b < 256) payload (checksum payload) is.bytes (checksum-below payload) in
    let count : length bytes ≡ length payload + 4 =
    length-append payload (checksum payload) ∙ ap (λ n. length payload + n) (checksum-length payload) in
    let digits = converted 256 58 bytes in
    let small : All (λ d. d < 58) digits = converted-below 256 58 bytes (omega arith) in
    let found : map digit_of text ≡ digits = ap (map digit_of) is.same ∙ digits-letters digits small in
    let back : decoded text ≡ bytes = ap (converted 58 256) found ∙ there_and_back 256 58 bytes (omega arith) (omega arith) below in
    let front : length payload ≡ length bytes - 4 = omega arith in
    let payload_is : payload_of text ≡ payload =
    ap (λ xs. take (length xs - 4) xs) back ∙ take_at payload (checksum payload) (length bytes - 4) front in
    let sum : checksum_of text ≡ checksum payload =
    ap (λ xs. drop (length xs - 4) xs) back ∙ drop_at payload (checksum payload) (length bytes - 4) front in
    let of_letter : (k : ℕ) → k < length text → digit_of (get_or text k 0) < 58 =
    λ k l.
    let same : digit_of (get_or text k 0) ≡ get_or digits k 0 =
    sym (get_or-map digit_of text k 0 0 l) ∙ ap (λ xs. get_or xs k 0) found in
    omega (arith, All-get_or (λ d. d < 58) digits k 0 (omega (arith, ap length found, length-map text digit_of)) small) in
    let first : first_bad_letter text ≡ length text =
    position_or_len_is (λ c. nat_le 58 (digit_of c)) text (length text) 0 (omega arith)
    (λ k l. lt-leb 58 (digit_of (get_or text k 0)) (of_letter k l)) (λ l. absurd (omega arith)) in
    let long : length (decoded text) ≡ length payload + 4 = ap length back ∙ count in
    let letters = le-ltb (first_bad_letter text) (length text) (omega arith) in
    let least = le-ltb (length (decoded text)) 4 (omega arith) in
    let most = le-ltb 82 (length (decoded text)) (omega (arith, is.short)) in
    let equal = (bytes_eq-Decides (checksum_of text) (checksum (payload_of text))).1 (sum ∙ ap checksum (sym payload_is)) in
    record {
      not_refused = rw (letters, least, most, equal) refl;
      payload_is = payload_is;
    }
