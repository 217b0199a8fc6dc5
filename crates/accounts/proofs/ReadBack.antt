-- What is read is written so.
use Rattle.std.proofs.Common.{◌≡◌, ℕ, ◌<◌, Bool, true, false, cond, eqb, ◌&&◌, ◌⊎◌, List, [], ◌∷◌, Option, Some, None, Result, Ok, Err, length, drop, get_or, codes, refl, sym, ◌∙◌, subst, inl, inr, arith}
use Rattle.std.specs.Str.{bytes_eq, str_to_ascii_lowercase}
use Rattle.std.proofs.lemmas.Bool.{eqb-true}
use Rattle.std.proofs.lemmas.Slice.Eq.{bytes_eq-Decides}
use Rattle.std.proofs.lemmas.List.Elements.{All-from_get_or}
use Rattle.hex.specs.Hex.{decode_sized}
use Rattle.hex.specs.declared.error.FromHexError.{FromHexError}
use Rattle.hex.proofs.HexLemmas.{decode_sized-ok, decode_sized-twice, decode_of-ok}
use Rattle.base58.specs.Reading as base58
use Rattle.base58.specs.declared.reading.Base58Error.{Base58Error}
use Rattle.base58.proofs.Texts as base58_texts
use Rattle.bech32.specs.Reading as bech32
use Rattle.bech32.specs.declared.reading.AddressError.{AddressError}
use Rattle.bech32.proofs.Texts as bech32_texts
use Rattle.addresses.specs.declared.address.Address.TheVariants.{P2pkh, P2sh, P2wpkh, P2tr, Ethereum}
use Rattle.addresses.specs.Ethereum.{erc55}
use Rattle.accounts.specs.declared.shown.Shown.{Shown}
use Rattle.accounts.specs.declared.shown.Shown.TheVariants as shown
use Rattle.accounts.specs.declared.shown.ShownError.{ShownError}
use Rattle.accounts.specs.declared.shown.ShownError.TheVariants.{OtherNetwork}
use Rattle.accounts.specs.Shown.{version_of, is_public, is_private, is_of_test_network, is_key, key_in, hash_in, payload_in, base58_or, base58_in, of_base58, program_in, witness_or, witness_in, of_bech32, account_or, account_in, of_hex, begins, by_front, fingerprint_or, shown_in}
use Rattle.accounts.specs.Texts.{IsShownText}

chosen : {A : Type 0} (b : Bool) (x y z : A) → cond b x y ≡ z → ((b ≡ true) × (x ≡ z)) ⊎ ((b ≡ false) × (y ≡ z))
chosen true x y z h = inl (refl, h)
chosen false x y z h = inr (refl, h)

both : (b c : Bool) → (b && c) ≡ true → (b ≡ true) × (c ≡ true)
both true c h = (refl, h)
both false c h = absurd (cc)

taken : (a b : Shown) → ◌≡◌ {A = Result Shown ShownError} (Ok a) (Ok b) → a ≡ b
taken a b h = cc

refused : (e : ShownError) (s : Shown) → ◌≡◌ {A = Result Shown ShownError} (Err e) (Ok s) → ⊥
refused e s h = cc

-- ---- extended keys and hashes

key_read : (text payload : List ℕ) (s : Shown) → base58.IsText text payload → length payload ≡ 78 → key_in payload ≡ Ok s
    → IsShownText text s
key_read text payload s is count h =
    elim (chosen (is_private (version_of payload)) _ _ (Ok s) h) [
      | inl private ↦ absurd (refused _ s private.1)
      | inr one ↦ elim (chosen (is_of_test_network (version_of payload)) _ _ (Ok s) one.1) [
        | inl test ↦ absurd (refused _ s test.1)
        | inr two ↦ elim (chosen (is_public (version_of payload)) _ _ (Ok s) two.1) [
          | inr unknown ↦ absurd (refused _ s unknown.1)
          | inl public ↦ elim (chosen (is_key payload) _ _ (Ok s) public.1) [
            | inr bad ↦ absurd (refused _ s bad.1)
            | inl good ↦
                subst (IsShownText text) (taken (shown.PublicKey (record { bytes = payload })) s good.1)
                (record { text_is = is; count = count; public = public.0; key = good.0 })
          ]
        ]
      ]
    ]

hash_read : (text : List ℕ) (v : ℕ) (hash : List ℕ) (s : Shown) → base58.IsText text (v ∷ hash) → length hash ≡ 20 → hash_in v hash ≡ Ok s
    → IsShownText text s
hash_read text v hash s is count h =
    elim (chosen (eqb v 0) _ _ (Ok s) h) [
      | inl zero_is ↦
          subst (IsShownText text) (taken (shown.Address (P2pkh hash)) s zero_is.1)
          (record { text_is = subst (λ k. base58.IsText text (k ∷ hash)) (eqb-true v 0 zero_is.0) is; count = count })
      | inr one ↦ elim (chosen (eqb v 5) _ _ (Ok s) one.1) [
        | inl five ↦
            subst (IsShownText text) (taken (shown.Address (P2sh hash)) s five.1)
            (record { text_is = subst (λ k. base58.IsText text (k ∷ hash)) (eqb-true v 5 five.0) is; count = count })
        | inr two ↦ elim (chosen (eqb v 111) _ _ (Ok s) two.1) [
          | inl test ↦ absurd (refused _ s test.1)
          | inr three ↦ elim (chosen (eqb v 196) _ _ (Ok s) three.1) [
            | inl test ↦ absurd (refused _ s test.1)
            | inr unknown ↦ absurd (refused _ s unknown.1)
          ]
        ]
      ]
    ]

short_read : (text payload : List ℕ) (s : Shown) → base58.IsText text payload → length payload ≡ 21
    → hash_in (get_or payload 0 0) (drop 1 payload) ≡ Ok s → IsShownText text s
short_read text [] s is count h = absurd (omega arith)
short_read text (v ∷ hash) s is count h = hash_read text v hash s is (omega arith) h

payload_read : (text payload : List ℕ) (s : Shown) → base58.IsText text payload → payload_in payload ≡ Ok s → IsShownText text s
payload_read text payload s is h =
    elim (chosen (eqb (length payload) 78) _ _ (Ok s) h) [
      | inl key ↦ key_read text payload s is (eqb-true (length payload) 78 key.0) key.1
      | inr one ↦ elim (chosen (eqb (length payload) 21) _ _ (Ok s) one.1) [
        | inl hash ↦ short_read text payload s is (eqb-true (length payload) 21 hash.0) hash.1
        | inr unknown ↦ absurd (refused _ s unknown.1)
      ]
    ]

base58_read : (text : List ℕ) (s : Shown) → base58_in text ≡ Ok s → IsShownText text s
base58_read text s h = cases (base58.refusal_of text) refl h
  where
    cases : (o : Option Base58Error) → base58.refusal_of text ≡ o → base58_or o (base58.payload_of text) ≡ Ok s → IsShownText text s
    cases (Some error) e h = absurd (refused (of_base58 error) s h)
    cases None e h =
        payload_read text (base58.payload_of text) s
        (base58_texts.read text (base58.payload_of text) (record { not_refused = e; payload_is = refl })) h

-- ---- witness programs

program_read : (text program : List ℕ) (version : ℕ) (s : Shown) → bech32.IsAddress (codes "bc") text version program
    → program_in true version program ≡ Ok s → IsShownText text s
program_read text program version s is h =
    elim (chosen (eqb version 0 && eqb (length program) 20) _ _ (Ok s) h) [
      | inl hash ↦
          let tests = both (eqb version 0) (eqb (length program) 20) hash.0 in
          subst (IsShownText text) (taken (shown.Address (P2wpkh program)) s hash.1)
          (record {
            text_is = subst (λ v. bech32.IsAddress (codes "bc") text v program) (eqb-true version 0 tests.0) is;
            count_is = eqb-true (length program) 20 tests.1;
          })
      | inr one ↦ elim (chosen (eqb version 1 && eqb (length program) 32) _ _ (Ok s) one.1) [
        | inl key ↦
            let tests = both (eqb version 1) (eqb (length program) 32) key.0 in
            subst (IsShownText text) (taken (shown.Address (P2tr program)) s key.1)
            (record {
              text_is = subst (λ v. bech32.IsAddress (codes "bc") text v program) (eqb-true version 1 tests.0) is;
              count_is = eqb-true (length program) 32 tests.1;
            })
        | inr unknown ↦ absurd (refused _ s unknown.1)
      ]
    ]

witness_read : (text : List ℕ) (s : Shown) → witness_in true (codes "bc") text ≡ Ok s → IsShownText text s
witness_read text s h = cases (bech32.refusal_of (codes "bc") text) refl h
  where
    gs : List ℕ
    gs = bech32.groups_behind (codes "bc") text

    version : ℕ
    version = bech32.version_of gs

    program : List ℕ
    program = bech32.bytes_of (bech32.program_groups gs)

    cases : (o : Option AddressError) → bech32.refusal_of (codes "bc") text ≡ o → witness_or true o version program ≡ Ok s → IsShownText text s
    cases (Some error) e h = absurd (refused (of_bech32 true error) s h)
    cases None e h =
        program_read text program version s
        (bech32_texts.read (codes "bc") text program version (record { not_refused = e; version_is = refl; program_is = refl })) h

test_refused : (prefix text : List ℕ) (s : Shown) → witness_in false prefix text ≡ Ok s → ⊥
test_refused prefix text s h = cases (bech32.refusal_of prefix text) h
  where
    gs : List ℕ
    gs = bech32.groups_behind prefix text

    cases : (o : Option AddressError) → witness_or false o (bech32.version_of gs) (bech32.bytes_of (bech32.program_groups gs)) ≡ Ok s → ⊥
    cases (Some error) h = refused (of_bech32 false error) s h
    cases None h = refused OtherNetwork s h

-- ---- Ethereum's accounts

account_read : (text : List ℕ) (s : Shown) → account_in text ≡ Ok s → IsShownText text s
account_read text s h = cases (decode_sized (drop 2 text) 20) refl h
  where
    cases : (r : Result (List ℕ) FromHexError) → decode_sized (drop 2 text) 20 ≡ r → account_or text r ≡ Ok s → IsShownText text s
    cases (Err error) e h = absurd (refused (of_hex error) s h)
    cases (Ok bytes) e h =
        let digits = decode_sized-ok (drop 2 text) 20 bytes e in
        let is = decode_of-ok (drop 2 text) bytes (sym (decode_sized-twice (drop 2 text) 20 digits) ∙ e) in
        elim (chosen (bytes_eq (erc55 bytes) text) _ _ (Ok s) h) [
          | inr other ↦ absurd (refused _ s other.1)
          | inl same ↦
              subst (IsShownText text) (taken (shown.Address (Ethereum bytes)) s same.1)
              (record {
                bytes_below = All-from_get_or (λ b. b < 256) bytes 0 (λ k l. is.3 k);
                count = omega (arith, is.2, digits);
                text_is = sym ((bytes_eq-Decides (erc55 bytes) text).0 same.0);
              })
        ]

-- ---- all kinds

front_read : (text : List ℕ) (s : Shown) → by_front (str_to_ascii_lowercase text) text ≡ Ok s → IsShownText text s
front_read text s h =
    let lower = str_to_ascii_lowercase text in
    elim (chosen (begins (codes "0x") lower) _ _ (Ok s) h) [
      | inl account ↦ account_read text s account.1
      | inr one ↦ elim (chosen (begins (codes "bc1") lower) _ _ (Ok s) one.1) [
        | inl main ↦ witness_read text s main.1
        | inr two ↦ elim (chosen (begins (codes "tb1") lower) _ _ (Ok s) two.1) [
          | inl test ↦ absurd (test_refused (codes "tb") text s test.1)
          | inr three ↦ elim (chosen (begins (codes "bcrt1") lower) _ _ (Ok s) three.1) [
            | inl test ↦ absurd (test_refused (codes "bcrt") text s test.1)
            | inr plain ↦ base58_read text s plain.1
          ]
        ]
      ]
    ]

pub read : (text : List ℕ) (s : Shown) → shown_in text ≡ Ok s → IsShownText text s
unfolding shown_in
read text s h = cases (decode_sized text 4) refl h
  where
    cases : (r : Result (List ℕ) FromHexError) → decode_sized text 4 ≡ r → fingerprint_or text r ≡ Ok s → IsShownText text s
    cases (Ok bytes) e h = subst (IsShownText text) (taken (shown.Fingerprint bytes) s h) e
    cases (Err error) e h = front_read text s h
