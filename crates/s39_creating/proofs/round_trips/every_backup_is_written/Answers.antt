use Rattle.std.proofs.Common.{refl}
use Rattle.s39_input.proofs.Runs.PrintedLines.{printed_all}
use Rattle.s39_creating.proofs.round_trips.every_backup_is_written.Goals as goal

pub returns : goal.returns
returns c = λ asked random plan printable secret_length secret_bytes random_bytes enough.
    let (shares, created) =
    c.every_backup_can_be_created.ensures asked random plan secret_length
    secret_bytes random_bytes enough in
    let are_shares =
    c.created_shares_are_shares.ensures asked random shares plan
    secret_length secret_bytes random_bytes created in
    let (text, printed) = printed_all c.every_share_has_a_printed_form.ensures shares are_shares in
    (text, (shares, refl, (printable, secret_length, enough, created), printed))
