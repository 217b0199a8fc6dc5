use Rattle.std.proofs.Common.{◌≡◌, ◌∙◌, ◌≤◌, ◌+◌, ◌++◌, ℕ, List, length, ap, arith}
use Rattle.std.specs.Fmt.{decimal}
use Rattle.std.proofs.lemmas.Fmt.{length-decimal-le}
use Rattle.std.proofs.lemmas.List.{length-append}
use Rattle.s39_cli.proofs.person.Person.say_number.Goals as goal

pub push_number-requires : goal.push_number-requires
push_number-requires g c =
    let room = c.requires in
    let digits : length (decimal c.args.number) ≤ 20 = length-decimal-le 20 c.args.number (omega arith) (omega arith) (omega arith) in
    let first : length c.push_text.new.line.items ≡ length c.args.before.now =
    ap length (c.push_text.ensures ∙ ap (λ (items : List ℕ). items ++ c.args.before.now) c.new-line.ensures) in
    omega arith

pub push_text-requires-2 : goal.push_text-requires-2
push_text-requires-2 g c =
    let room = c.requires in
    let digits : length (decimal c.args.number) ≤ 20 = length-decimal-le 20 c.args.number (omega arith) (omega arith) (omega arith) in
    let first : length c.push_text.new.line.items ≡ length c.args.before.now =
    ap length (c.push_text.ensures ∙ ap (λ (items : List ℕ). items ++ c.args.before.now) c.new-line.ensures) in
    let both : length c.push_number.new.line.items ≡ length c.push_text.new.line.items + length (decimal c.args.number) =
    ap length c.push_number.ensures ∙ length-append c.push_text.new.line.items (decimal c.args.number) in
    omega arith
