-- Accounts, their addresses, and the texts of their keys (SLIP-132, section "Registered HD version bytes").
use Rattle.std.specs.Prelude.{ℕ, List, Option, Result, Ok, Err, Some, None}
use Rattle.std.specs.Option.{option_and_then}
use Rattle.curve_points.specs.Multiples.{public_point}
use Rattle.bip32.specs.declared.extended_key.ExtendedKey.{ExtendedKey}
use Rattle.bip32.specs.declared.node.Node.{Node}
use Rattle.bip32.specs.Derivation.{child}
use Rattle.bip32.specs.Serialization.{master_node, node_at, serialized_private, serialized_public}
use Rattle.base58.specs.Base58.{base58check}
use Rattle.addresses.specs.declared.address.Address.{Address}
use Rattle.addresses.specs.declared.address.Kind.{Kind}
use Rattle.addresses.specs.declared.address.Kind.TheVariants.{P2pkh, P2shP2wpkh, P2wpkh, P2tr, Ethereum}
use Rattle.addresses.specs.Address.{address_of}
use Rattle.accounts.specs.declared.derivation.Chain.{Chain}
use Rattle.accounts.specs.declared.derivation.NoKey.{NoKey}
use Rattle.accounts.specs.Paths.{account_path, chain_number}

-- what is found, or the refusal
abbrev pub found : {A : Type 0} → Option A → Result A NoKey
found None = Err (record {})
found (Some a) = Ok a

-- an account's key, with its place below the master key
abbrev pub account : ExtendedKey → Kind → ℕ → Option Node
account master kind number = node_at (master_node master) (account_path kind number)

-- the key below which an account's addresses are
abbrev pub chain_key : ExtendedKey → Chain → Option ExtendedKey
chain_key account chain = child account (chain_number chain)

-- the address of this index on a chain
abbrev pub address : Kind → ExtendedKey → ℕ → Option Address
address kind chain index = option_and_then (λ key. address_of kind (public_point key.key)) (child chain index)

-- the versions of extended public keys: xpub, ypub and zpub
abbrev pub version : Kind → ℕ
version P2pkh = 0x0488B21E
version P2shP2wpkh = 0x049D7CB2
version P2wpkh = 0x04B24746
version P2tr = 0x0488B21E
version Ethereum = 0x0488B21E

-- the text of an account's extended public key
abbrev pub public_text : Kind → Node → List ℕ
public_text kind node = base58check (serialized_public (version kind) node)

-- the text of an extended private key: an xprv
abbrev pub private_text : Node → List ℕ
private_text node = base58check (serialized_private 0x0488ADE4 node)

abbrev pub master_text : ExtendedKey → List ℕ
master_text master = private_text (master_node master)
