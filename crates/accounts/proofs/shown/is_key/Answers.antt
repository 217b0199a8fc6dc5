use Rattle.std.proofs.Common.{◌≡◌, true, ◌&&◌, take, drop, sym, ap, ◌∙◌}
use Rattle.accounts.specs.Shown.{has_place, is_point}
use Rattle.accounts.proofs.shown.is_key.Goals as goal

pub returns-then-has_place : goal.returns-then-has_place
returns-then-has_place c =
    let bytes = c.args.bytes.now in
    let placed : has_place bytes ≡ true = sym c.has_place.ensures ∙ c.if-has_place.true in
    c.is_point.ensures ∙ sym (ap (λ b. b && is_point (take 33 (drop 45 bytes))) placed)
