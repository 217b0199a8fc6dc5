use Rattle.s39_c.proofs.Rooms.{from_encrypted_fits}
use Rattle.s39_c.proofs.lengths.backups_from_encrypted_fit.Goals as goal

pub returns : goal.returns
returns c = λ parameters encrypted random plan old new needed.
    from_encrypted_fits encrypted random
    (λ params threshold groups text. c.backups_from_encrypted_are_short.ensures threshold groups random (params, encrypted) text)
    parameters plan old new needed
