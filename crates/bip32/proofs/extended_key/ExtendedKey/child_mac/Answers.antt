use Rattle.std.proofs.Common.{◌∙◌}
use Rattle.bip32.proofs.Hashed.{hardened}
use Rattle.bip32.proofs.extended_key.ExtendedKey.child_mac.Goals as goal

pub returns-else-index-lt-HARDENED : goal.returns-else-index-lt-HARDENED
returns-else-index-lt-HARDENED c =
    c.hmac_sha512-else-index-lt-HARDENED.ensures
    ∙ hardened c.args.self.now.chain_code c.args.self.now.key c.args.index _ _ c.if-index-lt-HARDENED.false
    c.to_bytes.ensures c.to_be_bytes-number.ensures
