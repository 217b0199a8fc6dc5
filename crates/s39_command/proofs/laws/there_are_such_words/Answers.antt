use Rattle.std.proofs.Common.{[], ◌∷◌, codes, refl}
use Rattle.s39_command.specs.Command.{shamir_app}
use Rattle.s39_command.proofs.Literals.{apart, joined, placed, said, written}
use Rattle.s39_command.proofs.laws.there_are_such_words.Goals as goal

pub returns-clause-none : goal.returns-clause-none
unfolding shamir_app
returns-clause-none c = written 3 (codes "drill") [] refl refl refl

pub returns-clause-drill : goal.returns-clause-drill
unfolding shamir_app
returns-clause-drill c = written 3 (codes "drill") (apart (codes "passphrase") (codes "TREZOR") ∷ apart (codes "after") (codes "0.0") ∷ apart (codes "limit") (codes "5") ∷ []) refl refl refl

pub returns-clause-fingerprints : goal.returns-clause-fingerprints
unfolding shamir_app
returns-clause-fingerprints c = written 3 (codes "drill") (said (codes "fingerprint") ∷ joined (codes "passphrase") (codes "TREZOR") ∷ joined (codes "after") (codes "0.0") ∷ joined (codes "limit") (codes "5") ∷ []) refl refl refl

pub returns-clause-expecting_drill : goal.returns-clause-expecting_drill
unfolding shamir_app
returns-clause-expecting_drill c = written 3 (codes "drill") (joined (codes "limit") (codes "5") ∷ apart (codes "expect") (codes "DF41d8fe") ∷ joined (codes "passphrase-file") (codes "-") ∷ []) refl refl refl

pub returns-clause-recover : goal.returns-clause-recover
unfolding shamir_app
returns-clause-recover c = written 2 (codes "recover") (apart (codes "passphrase") (codes "TREZOR") ∷ said (codes "fingerprint") ∷ []) refl refl refl

pub returns-clause-expecting_recover : goal.returns-clause-expecting_recover
unfolding shamir_app
returns-clause-expecting_recover c = written 2 (codes "recover") (joined (codes "expect") (codes "DF41d8fe") ∷ apart (codes "passphrase") (codes "TREZOR") ∷ []) refl refl refl

pub returns-clause-create : goal.returns-clause-create
unfolding shamir_app
returns-clause-create c = written 1 (codes "create") (joined (codes "master-secret") (codes "00112233445566778899aabbccddeeff") ∷ apart (codes "exponent") (codes "1") ∷ placed (codes "plan") (codes "2of3") ∷ []) refl refl refl

pub returns-clause-plan_first : goal.returns-clause-plan_first
unfolding shamir_app
returns-clause-plan_first c = written 1 (codes "create") (placed (codes "plan") (codes "2of3") ∷ said (codes "extendable") ∷ apart (codes "master-secret") (codes "00112233445566778899aabbccddeeff") ∷ []) refl refl refl

pub returns-clause-reissue : goal.returns-clause-reissue
unfolding shamir_app
returns-clause-reissue c = written 5 (codes "reissue") (placed (codes "plan") (codes "2of3") ∷ placed (codes "names") (codes "0.2") ∷ []) refl refl refl

pub returns-clause-resplit : goal.returns-clause-resplit
unfolding shamir_app
returns-clause-resplit c = written 7 (codes "resplit") (apart (codes "random-file") (codes "random.bin") ∷ placed (codes "plan") (codes "2of3") ∷ []) refl refl refl
