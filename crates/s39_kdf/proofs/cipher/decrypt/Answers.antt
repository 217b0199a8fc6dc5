use Rattle.s39_kdf.proofs.Rounds.{IsEncryption-back, secret_only}
use Rattle.s39_kdf.proofs.cipher.decrypt.Goals as goal

pub returns-clause-value : goal.returns-clause-value
returns-clause-value c =
    IsEncryption-back c.args.passphrase.now c.args.params
    c.round-h0.result.items c.round-h1.result.items c.round-h2.result.items c.round-h3.result.items
    c.halves.result.1.now c.halves.result.0.now c.halves.ensures.same_length
    (cc) (cc) (cc) (cc) c.join.result.items c.args.encrypted.now.items (cc) c.halves.ensures.whole

pub returns-clause-only : goal.returns-clause-only
returns-clause-only c = λ secret e.
    secret_only c.args.passphrase.now c.args.params secret c.join.result.items c.args.encrypted.now.items e (returns-clause-value c)
