use Rattle.s39_set.proofs.SetQuorums.{written_of_quorum}
use Rattle.s39_set.proofs.WrittenNames.{same_written}
use Rattle.s39_set.proofs.laws.written_forms.Goals as goal

pub returns : goal.returns
returns c = record {
  quorums = λ set names is quorum. written_of_quorum set is names quorum;
  once = λ text names others is also. same_written text names others is also;
}
