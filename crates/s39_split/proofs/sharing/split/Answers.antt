use Rattle.std.proofs.Common.{◌≡◌, length, arith}
use Rattle.std.proofs.lemmas.List.{nil_from_length}
use Rattle.s39_split.specs.Sharing.{random_needed}
use Rattle.s39_split.specs.Shares.{bytes_of}
use Rattle.s39_lists.proofs.Pairs.{All-from_map}
use Rattle.s39_split.proofs.Splits.{copies_are}
use Rattle.s39_split.proofs.Choices.{length-shares}
use Rattle.s39_split.proofs.sharing.split.Goals as goal

pub returns-then-t-eq1-clause-shares : goal.returns-then-t-eq1-clause-shares
returns-then-t-eq1-clause-shares c =
    let none : length c.args.random.now ≡ random_needed 1 (length c.args.secret.now.items) = rw c.if-t-eq1.true at c.requires.random in
    let same : length c.fill.new.out ≡ length c.args.out.now = c.fill.auto.out in
    rw same at (copies_are c.args.t c.args.secret.now.items c.args.random.now c.fill.new.out c.if-t-eq1.true (nil_from_length c.args.random.now none)
    (omega arith) (omega arith) c.fill.ensures)

pub returns-else-t-eq1-clause-length : goal.returns-else-t-eq1-clause-length
returns-else-t-eq1-clause-length c =
    let n = length c.args.secret.now.items in
    All-from_map (λ share. length share ≡ n) (λ v. v.items) c.split_several.new.out
    (length-shares c.args.t (length c.args.out.now) c.args.secret.now.items c.args.random.now (bytes_of c.split_several.new.out) c.split_several.ensures)
