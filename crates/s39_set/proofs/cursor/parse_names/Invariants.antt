use Rattle.std.proofs.Common.{◌≡◌, map}
use Rattle.s39_set.specs.Names.{AreNames}
use Rattle.s39_set.specs.Written.{name_text}
use Rattle.s39_set.proofs.cursor.parse_names.Given as goal

abbrev pub invariant-loop-name : goal.invariant-loop-name
invariant-loop-name l = record {
  can_next : (goal.iterator-loop-name).can_next l.name-iterator;
  is_finite : (goal.iterator-loop-name).is_finite l.name-iterator;
  texts : map name_text l.quorum ≡ map (λ part. part.now) l.yielded;
  are_names : AreNames l.quorum;
}
