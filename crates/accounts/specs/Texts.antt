-- Which text shows what.
use Rattle.std.specs.Prelude.{◌≡◌, ℕ, ◌<◌, true, List, ◌∷◌, All, Ok, length, codes}
use Rattle.hex.specs.Hex.{decode_sized}
use Rattle.base58.specs.Reading.{IsText}
use Rattle.bech32.specs.Reading.{IsAddress}
use Rattle.addresses.specs.declared.address.Address.{Address}
use Rattle.addresses.specs.declared.address.Address.TheVariants.{P2pkh, P2sh, P2wpkh, P2tr, Ethereum}
use Rattle.addresses.specs.Ethereum.{erc55}
use Rattle.accounts.specs.declared.shown.Shown.{Shown}
use Rattle.accounts.specs.declared.shown.Shown.TheVariants as shown
use Rattle.accounts.specs.Shown.{version_of, is_public, is_key}

-- a hash behind a version, in Base58Check
pub record IsHashText (version : ℕ) (text hash : List ℕ) : Type 0 where
  pub text_is : IsText text (version ∷ hash)
  pub count : length hash ≡ 20

-- a witness program of so many bytes, in one case of letters
pub record IsProgramText (version count : ℕ) (text program : List ℕ) : Type 0 where
  pub text_is : IsAddress (codes "bc") text version program
  pub count_is : length program ≡ count

-- an account of Ethereum, with the capitals of ERC-55
pub record IsAccountText (text bytes : List ℕ) : Type 0 where
  pub bytes_below : All (λ b. b < 256) bytes
  pub count : length bytes ≡ 20
  pub text_is : text ≡ erc55 bytes

-- the bytes of an extended public key, in Base58Check
pub record IsKeyText (text bytes : List ℕ) : Type 0 where
  pub text_is : IsText text bytes
  pub count : length bytes ≡ 78
  pub public : is_public (version_of bytes) ≡ true
  pub key : is_key bytes ≡ true

abbrev pub IsAddressText : List ℕ → Address → Type 0
IsAddressText text (P2pkh hash) = IsHashText 0 text hash
IsAddressText text (P2sh hash) = IsHashText 5 text hash
IsAddressText text (P2wpkh hash) = IsProgramText 0 20 text hash
IsAddressText text (P2tr key) = IsProgramText 1 32 text key
IsAddressText text (Ethereum bytes) = IsAccountText text bytes

-- eight hexadecimal digits in either case show a fingerprint
abbrev pub IsShownText : List ℕ → Shown → Type 0
IsShownText text (shown.Fingerprint bytes) = decode_sized text 4 ≡ Ok bytes
IsShownText text (shown.PublicKey key) = IsKeyText text key.bytes
IsShownText text (shown.Address address) = IsAddressText text address
