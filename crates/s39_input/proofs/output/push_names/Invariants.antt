use Rattle.std.proofs.Common.{◌≡◌, ◌+◌, ◌*◌, ◌≤◌, ◌∷◌, ◌++◌, length, take}
use Rattle.s39_set.specs.Names.{Name}
use Rattle.s39_set.specs.Written.{quorum_text}
use Rattle.s39_input.proofs.output.push_names.Given as goal

abbrev pub invariant-loop-name : goal.invariant-loop-name
invariant-loop-name l = record {
  first : Name;
  names : l.names ≡ first ∷ l.others;
  text : l.line.items ≡ l.fn.line.items ++ quorum_text (first ∷ take l.name-index l.others);
  room : length l.line.items + 1 ≤ length l.fn.line.items + 6 * (l.name-index + 1);
}
