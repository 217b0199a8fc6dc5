use Rattle.std.proofs.Common.{◌≡◌, ◌∙◌, ap, subst, sym, true, false}
use Rattle.std.specs.Io.KnownBytes.{Keeps}
use Rattle.s39_cli.specs.Ending.{GoesOut}
use Rattle.s39_cli.proofs.GoingOut.{shown_whole}
use Rattle.s39_cli.proofs.delivery.show_text.Goals as goal
use Rattle.s39_cli.proofs.delivery.show_text.Goals.{then-write_whole, else-write_whole}

pub returns : goal.returns
returns g c =
    let old = g.W.Write.contents c.args.output in
    let now = g.W.Write.contents c.write_whole.new.output.output in
    let text = c.args.text.now in
    let out : GoesOut old now text c.write_whole.result =
    subst (λ t. GoesOut old now t c.write_whole.result) c.as_bytes.ensures.value
    (subst (λ w. GoesOut (g.W.Write.contents w) now c.as_bytes.result.now c.write_whole.result) c.new-output.ensures.output c.write_whole.ensures) in
    elim c.if-write_whole.branch [
      | then-write_whole w ↦
          let wrote : c.write_whole.result ≡ true = cc in
          let kept : Keeps now (g.W.Write.contents w.flush.new.self.output) = assumption w in
          let last : c.into_inner.result ≡ w.flush.new.self.output = c.into_inner.ensures ∙ ap (λ p. p.output) w.output-is in
          subst (λ v. GoesOut old (g.W.Write.contents v) text c.if-write_whole.is_whole) (sym last)
          (shown_whole old now (g.W.Write.contents w.flush.new.self.output) text c.if-write_whole.is_whole (subst (GoesOut old now text) wrote out) kept)
      | else-write_whole w ↦
          let wrote : c.write_whole.result ≡ false = cc in
          let none : c.if-write_whole.is_whole ≡ false = cc in
          let last : c.into_inner.result ≡ c.write_whole.new.output.output = c.into_inner.ensures ∙ ap (λ p. p.output) w.output-is in
          subst (λ v. GoesOut old (g.W.Write.contents v) text c.if-write_whole.is_whole) (sym last)
          (subst (GoesOut old now text) (wrote ∙ sym none) out)
    ]
