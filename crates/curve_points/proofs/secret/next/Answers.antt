use Rattle.curve_points.specs.declared.point.Point.TheVariants.{Finite}
use Rattle.curve_points.specs.Multiples.{next_multiple}
use Rattle.curve_points.proofs.Selected.{chosen}
use Rattle.curve_points.proofs.secret.next.Goals as goal

pub returns : goal.returns
returns c = λ p j.
    let bit = c.args.bit in
    let doubled = c.double-doubled.ensures p j in
    let more = c.add-more.ensures _ doubled in
    chosen bit c.add-more.result c.double-doubled.result c.select.result (next_multiple (Finite c.args.point.now) p bit) c.requires.bit
    (record { one = c.select.ensures.one; zero = c.select.ensures.zero })
    (λ e. rw e more) (λ e. rw e doubled)
