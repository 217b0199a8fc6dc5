-- The places of keys, and their 78 bytes: BIP-32, section "Serialization format".
use Rattle.std.specs.Prelude.{ℕ, ◌+◌, List, [], ◌∷◌, ◌++◌, replicate, Option, Some}
use Rattle.std.specs.Option.{option_and_then, option_map}
use Rattle.std.specs.Int.{bytes_high_first, to_be_bytes, w32}
use Rattle.bip32.specs.declared.extended_key.ExtendedKey.{ExtendedKey}
use Rattle.bip32.specs.declared.node.Node.{Node}
use Rattle.bip32.specs.Derivation.{child, public_bytes}
use Rattle.bip32.specs.Fingerprint.{fingerprint}

-- a master key's place: depth 0, no parent's fingerprint and no child number
abbrev pub master_node : ExtendedKey → Node
master_node key = record { key = key; depth = 0; parent = replicate 4 0; number = 0 }

-- the child of this number, at this depth
abbrev pub child_of : ExtendedKey → ℕ → ℕ → Option Node
child_of parent depth number =
    option_map (λ key. record { key = key; depth = depth; parent = fingerprint parent.key; number = number }) (child parent number)

-- what a path leads to, from child to child, each one deeper
unfoldable pub node_at : Node → List ℕ → Option Node
node_at node [] = Some node
node_at node (i ∷ path) = option_and_then (λ next. node_at next path) (child_of node.key (node.depth + 1) i)

-- version, depth, parent's fingerprint, child number, chain code, key data
abbrev pub serialized : ℕ → Node → List ℕ → List ℕ
serialized version node key_data =
    to_be_bytes w32 version
    ++ (node.depth ∷ (node.parent ++ (to_be_bytes w32 node.number ++ (node.key.chain_code ++ key_data))))

-- with 0 and ser_256(k)
abbrev pub serialized_private : ℕ → Node → List ℕ
serialized_private version node = serialized version node (0 ∷ bytes_high_first 32 node.key.key)

-- with ser_P(K)
abbrev pub serialized_public : ℕ → Node → List ℕ
serialized_public version node = serialized version node (public_bytes node.key.key)
