use Rattle.std.proofs.Common.{ap, ◌∙◌, Some}
use Rattle.std.specs.Option.{option_map}
use Rattle.hashes.specs.Digests.{hash160}
use Rattle.addresses.specs.declared.address.Address.TheVariants.{P2sh, P2wpkh, P2tr, Ethereum}
use Rattle.addresses.specs.Bitcoin.{witness_script}
use Rattle.addresses.specs.Ethereum.{account}
use Rattle.addresses.specs.Taproot.{output_key}
use Rattle.addresses.proofs.address.address_at.Goals as goal

pub returns-in-P2shP2wpkh : goal.returns-in-P2shP2wpkh
returns-in-P2shP2wpkh c =
    rw (c.in-P2shP2wpkh.is)
    (ap (λ h. Some (P2sh h))
    (c.hash160-in-P2shP2wpkh.ensures ∙ ap hash160 (c.witness_script.ensures ∙ ap witness_script c.compressed-bytes.ensures)))

pub returns-in-P2wpkh : goal.returns-in-P2wpkh
returns-in-P2wpkh c =
    rw (c.in-P2wpkh.is) (ap (λ h. Some (P2wpkh h)) (c.hash160-in-P2wpkh.ensures ∙ ap hash160 c.compressed-bytes.ensures))

pub returns-in-Some : goal.returns-in-Some
returns-in-Some c =
    rw (c.in-P2tr.is) (ap (option_map (λ key. P2tr key)) (c.in-Some.ensures ∙ ap output_key c.to_bytes.ensures))

pub returns-in-None : goal.returns-in-None
returns-in-None c =
    rw (c.in-P2tr.is) (ap (option_map (λ key. P2tr key)) (c.in-None.ensures ∙ ap output_key c.to_bytes.ensures))

pub returns-in-Ethereum : goal.returns-in-Ethereum
returns-in-Ethereum c =
    rw (c.in-Ethereum.is) (ap (λ h. Some (Ethereum h)) (c.account.ensures ∙ ap account c.coordinates.ensures))
