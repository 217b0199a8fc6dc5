use Rattle.std.proofs.Common.{◌≡◌, ℕ, ◌+◌, List, [], ◌∷◌, Option, Some, None, refl, ap, ◌∙◌}
use Rattle.std.specs.Option.{option_and_then, option_map}
use Rattle.bip32.specs.declared.extended_key.ExtendedKey.{ExtendedKey}
use Rattle.bip32.specs.declared.node.Node.{Node}
use Rattle.bip32.specs.Derivation.{child}
use Rattle.bip32.specs.Fingerprint.{fingerprint}
use Rattle.bip32.specs.Paths.{at}
use Rattle.bip32.specs.Serialization.{master_node, node_at}
use Rattle.bip32.proofs.Steps.{in_a_row, one_step}
use Rattle.accounts.specs.Paths.{account_path, chain_number}
use Rattle.accounts.proofs.laws.keys_are_at_their_paths.Goals as goal

-- the key of the node at a path is the key at the path
key_at : (node : Node) (path : List ℕ) → option_map (λ n. n.key) (node_at node path) ≡ at node.key path
unfolding node_at at
key_at node [] = refl
key_at node (i ∷ path) = cases (child node.key i) (λ key. key_at (made key) path)
  where
    made : ExtendedKey → Node
    made key = record { key = key; depth = node.depth + 1; parent = fingerprint node.key.key; number = i }

    cases : (o : Option ExtendedKey)
        → ((key : ExtendedKey) → option_map (λ n. n.key) (node_at (made key) path) ≡ at key path)
        → option_map (λ n. n.key) (option_and_then (λ next. node_at next path) (option_map made o))
        ≡ option_and_then (λ next. at next path) o
    cases None h = refl
    cases (Some key) h = h key

pub returns-clause-accounts : goal.returns-clause-accounts
returns-clause-accounts c master kind number = key_at (master_node master) (account_path kind number)

-- two steps from where a path leads
two_steps : (o : Option ExtendedKey) (i j : ℕ)
    → option_and_then (λ key. at key (i ∷ j ∷ [])) o
    ≡ option_and_then (λ below. child below j) (option_and_then (λ key. child key i) o)
two_steps None i j = refl
two_steps (Some key) i j =
    in_a_row key (i ∷ []) (j ∷ []) ∙ ap (option_and_then (λ k. at k (j ∷ []))) (one_step key i) ∙ last (child key i)
  where
    last : (o : Option ExtendedKey) → option_and_then (λ k. at k (j ∷ [])) o ≡ option_and_then (λ below. child below j) o
    last None = refl
    last (Some below) = one_step below j

pub returns-clause-addresses : goal.returns-clause-addresses
returns-clause-addresses c master kind number chain index =
    in_a_row master (account_path kind number) (chain_number chain ∷ index ∷ [])
    ∙ two_steps (at master (account_path kind number)) (chain_number chain) index
