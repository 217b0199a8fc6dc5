-- What is written so is read.
use Rattle.std.proofs.Common.{◌≡◌, ◌≢◌, ℕ, zero, suc, ◌+◌, ◌*◌, ◌^◌, ◌<◌, ◌≤◌, Bool, true, false, cond, eqb, nat_eq, ◌&&◌, ◌||◌, ◌⊎◌, List, [], ◌∷◌, ◌++◌, All, Result, Ok, Err, length, map, take, drop, get_or, replicate, codes, refl, sym, ap, ap₂, ◌∙◌, subst, inl, inr, arith, append_assoc, length-append, length-drop, lit≤}
use Rattle.std.specs.Char.{to_ascii_lowercase}
use Rattle.std.specs.Str.{str_to_ascii_lowercase}
use Rattle.std.specs.Int.Digits.{AllBelowBase, digits_of, number_from_digits}
use Rattle.std.proofs.lemmas.Bool.{eqb-true, ne_eqb}
use Rattle.std.proofs.lemmas.Int.Digits.{number_lt, number_after_lt, length-digits_of-le}
use Rattle.std.proofs.lemmas.List.{length-map, length-replicate, length-take, length-take-le, take-append-drop}
use Rattle.std.proofs.lemmas.List.Elements.{All-append, All-drop, All-tail, All-take, recursion_from_All}
use Rattle.std.proofs.Math.Nat.{pow-le-pow_right}
use Rattle.std.proofs.lemmas.Slice.Eq.{bytes_eq-Decides}
use Rattle.hex.specs.Hex.{decode_sized}
use Rattle.hex.specs.declared.error.FromHexError.{FromHexError}
use Rattle.hex.proofs.Pairs.{decode_sized-pairs}
use Rattle.hex.proofs.HexLemmas.{decode_sized-ok, decode_pairs-ok}
use Rattle.hashes.specs.Digests.{double_sha256}
use Rattle.hashes.proofs.DigestBytes.{length-double_sha256}
use Rattle.base58.specs.Base58.{letter, leading_zeros, converted, base58, checksum}
use Rattle.base58.specs.Reading as base58
use Rattle.base58.proofs.Texts as base58_texts
use Rattle.base58.proofs.Converted.{there_and_back, converted-below, zeros-most}
use Rattle.bech32.specs.Reading as bech32
use Rattle.bech32.proofs.Texts as bech32_texts
use Rattle.addresses.specs.declared.address.Address.TheVariants.{P2pkh, P2sh, P2wpkh, P2tr, Ethereum}
use Rattle.accounts.specs.declared.shown.Shown.{Shown}
use Rattle.accounts.specs.declared.shown.Shown.TheVariants as shown
use Rattle.accounts.specs.declared.shown.ShownError.{ShownError}
use Rattle.accounts.specs.declared.shown.ShownError.TheVariants.{BadChecksum, UnknownKind}
use Rattle.accounts.specs.Shown.{version_of, is_public, is_private, is_of_test_network, is_key, key_in, hash_in, payload_in, begins, base58_or, base58_in, program_in, witness_or, witness_in, account_or, account_in, by_front, fingerprint_or, shown_in}
use Rattle.accounts.specs.Texts.{IsHashText, IsProgramText, IsKeyText, IsAccountText, IsShownText}
use Rattle.keccak.specs.Keccak.{keccak256}
use Rattle.addresses.specs.Ethereum.{halves, lower, cased, erc55}
use Rattle.accounts.proofs.HexDigits.{cased_pairs, length-halves}
use Rattle.accounts.proofs.Fronts.{BeginsWith, first_letter}

-- ---- a text of another length isn't a fingerprint

pub not_eight : (text : List ℕ) → length text ≢ 8 → shown_in text ≡ by_front (str_to_ascii_lowercase text) text
unfolding shown_in
not_eight text n = cases (decode_sized text 4) refl
  where
    cases : (r : Result (List ℕ) FromHexError) → decode_sized text 4 ≡ r → fingerprint_or text r ≡ by_front (str_to_ascii_lowercase text) text
    cases (Ok bytes) e = absurd (n (decode_sized-ok text 4 bytes e))
    cases (Err error) e = refl

-- ---- Base58Check

not_begun : (k l : ℕ) (ks ls : List ℕ) → nat_eq l k ≡ false → begins (k ∷ ks) (l ∷ ls) ≡ false
not_begun k l ks ls h = ap (λ b. b && begins ks ls) h

last : (a b c d : Bool) (w x y z v : Result Shown ShownError) → a ≡ false → b ≡ false → c ≡ false → d ≡ false
    → cond a w (cond b x (cond c y (cond d z v))) ≡ v
last a b c d w x y z v h1 h2 h3 h4 = rw (h1, h2, h3, h4) refl

-- no form but Base58Check begins with such a letter
plain : (c : ℕ) (rest text : List ℕ) → text ≡ c ∷ rest
    → nat_eq (to_ascii_lowercase c) 48 ≡ false → nat_eq (to_ascii_lowercase c) 98 ≡ false → nat_eq (to_ascii_lowercase c) 116 ≡ false
    → by_front (str_to_ascii_lowercase text) text ≡ base58_in text
plain c rest text is zero_not b_not t_not =
    ap (λ t. by_front (str_to_ascii_lowercase t) text) is ∙ rw (zero_not, b_not, t_not) refl

checksum-length : (payload : List ℕ) → length (checksum payload) ≡ 4
checksum-length payload = length-take-le 4 (double_sha256 payload) (omega (arith, length-double_sha256 payload))

-- so few letters write at most twice as many bytes
few : (ds : List ℕ) → All (λ d. d < 58) ds → length ds ≡ 8 → length (converted 58 256 ds) ≤ 16
few ds below count =
    let M = number_from_digits 58 ds in
    let small = number_lt 58 ds (recursion_from_All (λ d. d < 58) ds below) in
    let same : 58 ^ length ds ≡ 58 ^ 8 = ap (λ k. 58 ^ k) count in
    let limit : 58 ^ 8 ≤ 256 ^ 8 = lit≤ tt in
    let digits = length-digits_of-le 256 8 M (omega arith) (omega (arith, small, same, limit)) in
    let zeros = zeros-most ds in
    omega (arith, digits, zeros, count, length-append (replicate (leading_zeros ds) 0) (digits_of 256 M), length-replicate {A = ℕ} (leading_zeros ds) 0)

-- a text of 17 bytes or more has not 8 letters
long : (text payload : List ℕ) → base58.IsText text payload → 13 ≤ length payload → length text ≢ 8
long text payload is l e =
    let bytes = payload ++ checksum payload in
    let ds = converted 256 58 bytes in
    let below = converted-below 256 58 bytes (omega arith) in
    let bytes_below : All (λ b. b < 256) bytes = All-append (λ b. b < 256) payload (checksum payload) is.bytes (base58_texts.checksum-below payload) in
    let count : length ds ≡ 8 = sym (length-map ds letter) ∙ ap length (sym is.same) ∙ e in
    let back = ap length (there_and_back 256 58 bytes (omega arith) (omega arith) bytes_below) in
    omega (arith, few ds below count, back, length-append payload (checksum payload), checksum-length payload)

-- the text of a payload is read as what the payload is
payload_of_text : (text payload : List ℕ) → base58.IsText text payload → base58_in text ≡ payload_in payload
payload_of_text text payload is =
    let back = base58_texts.written text payload is in
    ap₂ (λ o p. base58_or o p) back.not_refused back.payload_is

-- 21 bytes are a hash behind a version
hash_payload : (v : ℕ) (hash : List ℕ) → length hash ≡ 20 → payload_in (v ∷ hash) ≡ hash_in v hash
hash_payload v hash h =
    ap (λ n. cond (eqb (suc n) 78) (key_in (v ∷ hash)) (cond (eqb (suc n) 21) (hash_in v hash) (Err UnknownKind))) h

-- 78 bytes are an extended key
key_payload : (bytes : List ℕ) → length bytes ≡ 78 → payload_in bytes ≡ key_in bytes
key_payload bytes h =
    ap (λ n. cond (eqb n 78) (key_in bytes) (cond (eqb n 21) (hash_in (get_or bytes 0 0) (drop 1 bytes)) (Err UnknownKind))) h

-- a hash behind the version 0: the text begins with the letter of a zero
zero_front : (text hash : List ℕ) → base58.IsText text (0 ∷ hash) → (rest : List ℕ) × (text ≡ 49 ∷ rest)
zero_front text hash is =
    let bytes = hash ++ checksum (0 ∷ hash) in
    (map letter (replicate (leading_zeros bytes) 0 ++ digits_of 58 (number_from_digits 256 (0 ∷ bytes))), is.same)

pub p2pkh : (text hash : List ℕ) → IsHashText 0 text hash → shown_in text ≡ Ok (shown.Address (P2pkh hash))
p2pkh text hash is =
    let front = zero_front text hash is.text_is in
    not_eight text (long text (0 ∷ hash) is.text_is (omega (arith, is.count)))
    ∙ plain 49 front.0 text front.1 refl refl refl ∙ payload_of_text text (0 ∷ hash) is.text_is
    ∙ hash_payload 0 hash is.count

below_rest : (payload rest : List ℕ) → All (λ b. b < 256) rest → AllBelowBase 256 (rest ++ checksum payload)
below_rest payload rest h =
    recursion_from_All (λ b. b < 256) (rest ++ checksum payload)
    (All-append (λ b. b < 256) rest (checksum payload) h (base58_texts.checksum-below payload))

pub p2sh : (text hash : List ℕ) → IsHashText 5 text hash → shown_in text ≡ Ok (shown.Address (P2sh hash))
p2sh text hash is =
    let payload = 5 ∷ hash in
    let rest = hash ++ checksum payload in
    let count : length rest ≡ 24 = omega (arith, length-append hash (checksum payload), checksum-length payload, is.count) in
    let hash_below = All-tail (λ b. b < 256) 5 hash is.text_is.bytes in
    let front : BeginsWith 51 33 (base58 (payload ++ checksum payload)) =
    first_letter 2 33 5 24 (payload ++ checksum payload) (5 ∷ []) rest (omega arith) (omega arith) refl refl count
    (below_rest payload hash hash_below) refl (lit≤ tt) (lit≤ tt) in
    not_eight text (long text payload is.text_is (omega (arith, is.count)))
    ∙ plain 51 front.rest text (is.text_is.same ∙ front.text_is) refl refl refl ∙ payload_of_text text payload is.text_is
    ∙ hash_payload 5 hash is.count

-- ---- extended keys

-- bytes whose first four make so great a number have no zero in front
no_zeros : (bytes more : List ℕ) → All (λ b. b < 256) bytes → 2 ^ 24 ≤ number_from_digits 256 (take 4 bytes) → leading_zeros (bytes ++ more) ≡ 0
no_zeros [] more below h = absurd (omega arith)
no_zeros (zero ∷ rest) more below h =
    let three = All-take (λ b. b < 256) 3 rest (All-tail (λ b. b < 256) 0 rest below) in
    let less = number_after_lt 256 (0 * 256 + 0) (take 3 rest) (recursion_from_All (λ b. b < 256) (take 3 rest) three) in
    let count : length (take 3 rest) ≤ 3 = omega (arith, length-take 3 rest) in
    let up : 256 ^ length (take 3 rest) ≤ 256 ^ 3 = pow-le-pow_right (omega arith) count in
    let limit : 256 ^ 3 ≤ 2 ^ 24 = lit≤ tt in
    absurd (omega (arith, less, up, limit, h))
no_zeros (suc b ∷ rest) more below h =
    ap (λ t. cond t (suc (leading_zeros (rest ++ more))) 0) (ne_eqb (suc b) 0 (λ e. absurd (omega arith)))

-- the text of an extended key with the version V begins with the letter of the digit e
key_text : (e V : ℕ) (text bytes : List ℕ) → IsKeyText text bytes → version_of bytes ≡ V → 0 < e → e < 58 → 2 ^ 24 ≤ V
    → e * 58 ^ 110 ≤ V * 256 ^ 78 → (V + 1) * 256 ^ 78 ≤ (e + 1) * 58 ^ 110
    → nat_eq (to_ascii_lowercase (letter e)) 48 ≡ false → nat_eq (to_ascii_lowercase (letter e)) 98 ≡ false
    → nat_eq (to_ascii_lowercase (letter e)) 116 ≡ false → shown_in text ≡ key_in bytes
key_text e V text bytes is version e0 e58 least low high zero_not b_not t_not =
    let rest = drop 4 bytes ++ checksum bytes in
    let all : bytes ++ checksum bytes ≡ take 4 bytes ++ rest =
    ap (λ xs. xs ++ checksum bytes) (sym (take-append-drop 4 bytes)) ∙ append_assoc (take 4 bytes) (drop 4 bytes) (checksum bytes) in
    let count : length rest ≡ 78 =
    omega (arith, length-append (drop 4 bytes) (checksum bytes), length-drop 4 bytes, checksum-length bytes, is.count) in
    let below = is.text_is.bytes in
    let zeros = no_zeros bytes (checksum bytes) below (subst (λ v. 2 ^ 24 ≤ v) (sym version) least) in
    let front = first_letter e 110 V 78 (bytes ++ checksum bytes) (take 4 bytes) rest e0 e58 all version count
    (below_rest bytes (drop 4 bytes) (All-drop (λ b. b < 256) 4 bytes below)) zeros low high in
    not_eight text (long text bytes is.text_is (omega (arith, is.count)))
    ∙ plain (letter e) front.rest text (is.text_is.same ∙ front.text_is) zero_not b_not t_not ∙ payload_of_text text bytes is.text_is
    ∙ key_payload bytes is.count

right_key : (a b c d : Bool) (w x y z v : Result Shown ShownError) → a ≡ false → b ≡ false → c ≡ true → d ≡ true
    → cond a w (cond b x (cond c (cond d y z) v)) ≡ y
right_key a b c d w x y z v h1 h2 h3 h4 = rw (h1, h2, h3, h4) refl

key_is : (V : ℕ) (bytes : List ℕ) → version_of bytes ≡ V → is_key bytes ≡ true
    → is_private V ≡ false → is_of_test_network V ≡ false → is_public V ≡ true
    → key_in bytes ≡ Ok (shown.PublicKey (record { bytes = bytes }))
key_is V bytes version right private test public =
    let v = version_of bytes in
    right_key (is_private v) (is_of_test_network v) (is_public v) (is_key bytes) _ _ _ _ _
    (ap is_private version ∙ private) (ap is_of_test_network version ∙ test) (ap is_public version ∙ public) right

one_of : (a b c : Bool) → (a || b || c) ≡ true → (a ≡ true) ⊎ ((b ≡ true) ⊎ (c ≡ true))
one_of true b c h = inl refl
one_of false true c h = inr (inl refl)
one_of false false true h = inr (inr refl)
one_of false false false h = absurd (cc)

pub key : (text bytes : List ℕ) → IsKeyText text bytes → shown_in text ≡ Ok (shown.PublicKey (record { bytes = bytes }))
key text bytes is =
    let v = version_of bytes in
    elim (one_of (eqb v 0x0488B21E) (eqb v 0x049D7CB2) (eqb v 0x04B24746) is.public) [
      | inl x ↦
          let version : v ≡ 0x0488B21E = eqb-true v 0x0488B21E x in
          key_text 55 0x0488B21E text bytes is version (omega arith) (omega arith) (lit≤ tt) (lit≤ tt) (lit≤ tt) refl refl refl
          ∙ key_is 0x0488B21E bytes version is.key refl refl refl
      | inr more ↦ elim more [
        | inl y ↦
            let version : v ≡ 0x049D7CB2 = eqb-true v 0x049D7CB2 y in
            key_text 56 0x049D7CB2 text bytes is version (omega arith) (omega arith) (lit≤ tt) (lit≤ tt) (lit≤ tt) refl refl refl
            ∙ key_is 0x049D7CB2 bytes version is.key refl refl refl
        | inr z ↦
            let version : v ≡ 0x04B24746 = eqb-true v 0x04B24746 z in
            key_text 57 0x04B24746 text bytes is version (omega arith) (omega arith) (lit≤ tt) (lit≤ tt) (lit≤ tt) refl refl refl
            ∙ key_is 0x04B24746 bytes version is.key refl refl refl
      ]
    ]

-- ---- witness programs

program : (version count : ℕ) (text p : List ℕ) (s : Shown) → IsProgramText version count text p → program_in true version p ≡ Ok s
    → shown_in text ≡ Ok s
program version count text p s is h =
    let back = bech32_texts.written (codes "bc") text p version (omega arith) is.text_is in
    let sound = bech32_texts.sound (codes "bc") text back.not_refused in
    let gs = bech32.groups_behind (codes "bc") text in
    let front : by_front (str_to_ascii_lowercase text) text ≡ witness_in true (codes "bc") text =
    ap (λ l. by_front l text) is.text_is.lower_is in
    not_eight text (λ e. absurd (omega (arith, sound.least))) ∙ front
    ∙ ap (λ o. witness_or true o (bech32.version_of gs) (bech32.bytes_of (bech32.program_groups gs))) back.not_refused
    ∙ ap₂ (λ v q. program_in true v q) back.version_is back.program_is ∙ h

pub p2wpkh : (text hash : List ℕ) → IsProgramText 0 20 text hash → shown_in text ≡ Ok (shown.Address (P2wpkh hash))
p2wpkh text hash is =
    program 0 20 text hash (shown.Address (P2wpkh hash)) is
    (ap (λ n. cond (eqb n 20) (Ok (shown.Address (P2wpkh hash))) (Err UnknownKind)) is.count_is)

pub p2tr : (text key : List ℕ) → IsProgramText 1 32 text key → shown_in text ≡ Ok (shown.Address (P2tr key))
p2tr text key is =
    program 1 32 text key (shown.Address (P2tr key)) is
    (ap (λ n. cond (eqb n 32) (Ok (shown.Address (P2tr key))) (Err UnknownKind)) is.count_is)

-- ---- Ethereum's accounts

length-keccak256 : (m : List ℕ) → length (keccak256 m) ≡ 32
unfolding keccak256
length-keccak256 m = refl

pub ethereum : (text bytes : List ℕ) → IsAccountText text bytes → shown_in text ≡ Ok (shown.Address (Ethereum bytes))
ethereum text bytes is =
    let digest = keccak256 (map lower (halves bytes)) in
    let ms = halves digest in
    let digits = cased (halves bytes) ms in
    let enough : 2 * length bytes ≤ length ms =
    omega (arith, is.count, length-halves digest, length-keccak256 (map lower (halves bytes))) in
    let pairs = cased_pairs 0 bytes ms is.bytes_below enough in
    let count : length digits ≡ 2 * 20 = (decode_pairs-ok 0 digits bytes pairs).1 ∙ ap (λ n. 2 * n) is.count in
    let read : decode_sized digits 20 ≡ Ok bytes = decode_sized-pairs digits 20 (omega arith) (omega arith) ∙ pairs in
    let same = (bytes_eq-Decides (erc55 bytes) (erc55 bytes)).1 refl in
    let whole : text ≡ 48 ∷ 120 ∷ digits = is.text_is in
    let front : by_front (str_to_ascii_lowercase text) text ≡ account_in (erc55 bytes) =
    ap (λ t. by_front (str_to_ascii_lowercase t) t) is.text_is in
    let long : length text ≡ suc (suc (length digits)) = ap length whole in
    not_eight text (λ e. absurd (omega (arith, long, count))) ∙ front
    ∙ ap (account_or (erc55 bytes)) read ∙ ap (λ b. cond b (Ok (shown.Address (Ethereum bytes))) (Err BadChecksum)) same

-- ---- all kinds

pub written : (text : List ℕ) (s : Shown) → IsShownText text s → shown_in text ≡ Ok s
unfolding shown_in
written text (shown.Fingerprint bytes) is = ap (fingerprint_or text) is
written text (shown.PublicKey k) is = key text k.bytes is
written text (shown.Address (P2pkh hash)) is = p2pkh text hash is
written text (shown.Address (P2sh hash)) is = p2sh text hash is
written text (shown.Address (P2wpkh hash)) is = p2wpkh text hash is
written text (shown.Address (P2tr k)) is = p2tr text k is
written text (shown.Address (Ethereum bytes)) is = ethereum text bytes is
