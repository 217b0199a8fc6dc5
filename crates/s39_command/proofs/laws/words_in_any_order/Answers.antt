use Rattle.s39_command.proofs.GivenJobs.{words_give, words_give_faults}
use Rattle.s39_command.proofs.Words as words
use Rattle.s39_command.proofs.laws.words_in_any_order.Goals as goal

pub returns : goal.returns
returns c = record {
  taken = words.words_are_taken;
  call = words_give;
  faults = words_give_faults;
}
