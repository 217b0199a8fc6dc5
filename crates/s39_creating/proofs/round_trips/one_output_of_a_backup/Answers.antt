use Rattle.s39_creating.proofs.Reissues.OneCreated.{reissues_once}
use Rattle.s39_creating.proofs.round_trips.one_output_of_a_backup.Goals as goal

pub returns : goal.returns
returns c = record { reissue = reissues_once c.shares_of_a_backup_agree.ensures c.shares_that_agree_join.ensures c.one_set.ensures c.one_printed_form.ensures }
