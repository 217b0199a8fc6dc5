-- Keys at paths: BIP-32, section "The key tree".
use Rattle.std.specs.Prelude.{ℕ, List, [], ◌∷◌, Option, Some}
use Rattle.std.specs.Option.{option_and_then}
use Rattle.bip32.specs.declared.extended_key.ExtendedKey.{ExtendedKey}
use Rattle.bip32.specs.Derivation.{child}

-- what a path leads to, from child to child
unfoldable pub at : ExtendedKey → List ℕ → Option ExtendedKey
at start [] = Some start
at start (i ∷ path) = option_and_then (λ next. at next path) (child start i)
