use Rattle.std.proofs.Common.{◌≡◌, get_or, take, sym, subst, arith}
use Rattle.std.proofs.lemmas.List.{take_more, take_all}
use Rattle.s39_set.specs.Steps.{AreMasksOf}
use Rattle.s39_set.proofs.Inserted.{masks_more}
use Rattle.s39_set.proofs.next.masks_of.Goals as goal

pub loop-group-preserved : goal.loop-group-preserved
loop-group-preserved c =
    let names = c.args.names.now in
    let i = c.loop-group.group-index in
    record {
      masks_are = subst (AreMasksOf c.insert.new.self) (sym (take_more names i (0, 0) c.loop-group-test.true))
          (masks_more c.loop-group.masks c.insert.new.self (take i names) (get_or names i (0, 0)) c.loop-group.invariant.masks_are c.insert.ensures);
      looks_are = omega arith;
    }

pub returns-clause-names : goal.returns-clause-names
returns-clause-names c =
    let all : take c.loop-group.group-index c.args.names.now ≡ c.args.names.now = take_all c.loop-group.group-index c.args.names.now (omega arith) in
    subst (AreMasksOf c.loop-group.masks) all c.loop-group.invariant.masks_are
