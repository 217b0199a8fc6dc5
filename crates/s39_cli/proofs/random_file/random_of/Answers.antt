use Rattle.std.proofs.Common.{◌≡◌, ℕ, List, Option, Some, None, IfSome, subst, take}
use Rattle.s39_cli.specs.Values.{AreDrawn, IsPart, part}
use Rattle.s39_cli.specs.declared.values.Until.TheVariants.{End}
use Rattle.s39_cli.proofs.random_file.random_of.Goals as goal

-- what a file that tells its bytes gives
drawn : (told remaining left : Option (List ℕ)) (random : List ℕ) → IfSome told (λ bytes. remaining ≡ Some bytes)
    → IsPart End 32575 remaining left random → AreDrawn told random
drawn None remaining left random is read = tt
drawn (Some known) remaining left random is read =
    subst (λ (o : Option (List ℕ)). IfSome o (λ bytes. random ≡ take 32575 (part End bytes))) is read.all

pub returns : goal.returns
returns g c = drawn (g.S.Shelf.told c.args.shelf.now c.args.name.now) _ _ c.fill.new.random.bytes.items c.in_ok-file.ensures c.in_ok-fill.ensures
