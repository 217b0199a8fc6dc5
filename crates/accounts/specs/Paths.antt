-- The paths of accounts and their addresses: BIP-44, section "Path levels", and BIP-49, BIP-84 and BIP-86.
use Rattle.std.specs.Prelude.{ℕ, ◌+◌, List, [], ◌∷◌, ◌++◌}
use Rattle.addresses.specs.declared.address.Kind.{Kind}
use Rattle.addresses.specs.declared.address.Kind.TheVariants.{P2pkh, P2shP2wpkh, P2wpkh, P2tr, Ethereum}
use Rattle.accounts.specs.declared.derivation.Chain.{Chain}
use Rattle.accounts.specs.declared.derivation.Chain.TheVariants.{Receive, Change}

-- n'
abbrev pub hardened : ℕ → ℕ
hardened n = 0x80000000 + n

-- the purpose: the number of the BIP
abbrev pub purpose : Kind → ℕ
purpose P2pkh = 44
purpose P2shP2wpkh = 49
purpose P2wpkh = 84
purpose P2tr = 86
purpose Ethereum = 44

-- the coin type (SLIP-44)
abbrev pub coin : Kind → ℕ
coin P2pkh = 0
coin P2shP2wpkh = 0
coin P2wpkh = 0
coin P2tr = 0
coin Ethereum = 60

-- m / purpose' / coin_type' / account'
abbrev pub account_path : Kind → ℕ → List ℕ
account_path kind number = hardened (purpose kind) ∷ hardened (coin kind) ∷ hardened number ∷ []

-- 0 for the external chain, 1 for the internal one
abbrev pub chain_number : Chain → ℕ
chain_number Receive = 0
chain_number Change = 1

-- m / purpose' / coin_type' / account' / change / address_index
abbrev pub address_path : Kind → ℕ → Chain → ℕ → List ℕ
address_path kind number chain index = account_path kind number ++ chain_number chain ∷ index ∷ []
