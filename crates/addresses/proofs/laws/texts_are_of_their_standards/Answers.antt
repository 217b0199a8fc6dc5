use Rattle.std.proofs.Common.{◌≡◌, List, ℕ, Option, Some, None, codes, refl}
use Rattle.std.specs.Int.{bytes_high_first}
use Rattle.std.specs.Option.{option_map}
use Rattle.bech32.specs.Segwit.{address}
use Rattle.addresses.specs.declared.address.Address.TheVariants.{P2tr}
use Rattle.addresses.specs.Address.{text_of}
use Rattle.addresses.specs.Taproot.{output_key}
use Rattle.addresses.proofs.laws.texts_are_of_their_standards.Goals as goal

pub returns-clause-p2pkh : goal.returns-clause-p2pkh
returns-clause-p2pkh c a = refl

pub returns-clause-p2sh_p2wpkh : goal.returns-clause-p2sh_p2wpkh
returns-clause-p2sh_p2wpkh c a = refl

pub returns-clause-p2wpkh : goal.returns-clause-p2wpkh
returns-clause-p2wpkh c a = refl

-- a text of an output key, if there is one
mapped : (o : Option (List ℕ))
    → option_map text_of (option_map (λ key. P2tr key) o) ≡ option_map (λ output. address (codes "bc") 1 output) o
mapped None = refl
mapped (Some key) = refl

pub returns-clause-p2tr : goal.returns-clause-p2tr
returns-clause-p2tr c a = mapped (output_key (bytes_high_first 32 a.x))

pub returns-clause-ethereum : goal.returns-clause-ethereum
returns-clause-ethereum c a = refl
